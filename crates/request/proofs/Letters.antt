-- Each `Request` is the one of its name: the letters that its message begins with, as one table. Assumes nothing.
use mathlib.Core.List.{List, [], ◌∷◌, map}
use mathlib.Core.Path.{◌≡◌, refl}
use lib.ListN.{take}
use Rattle.protocol.specs.Bytes.{ascii}
use Rattle.protocol.specs.Ids.{published}
use Rattle.protocol.specs.Messages.{bytes_of_request, message_of, snd2}
use Rattle.request.specs.Meaning.{meant}
use Rattle.request.specs.declared.Request.{Request}
use Rattle.request.specs.declared.Request.TheVariants as R

abbrev pub requests : List Request
requests =
    R.Stat ∷ R.Sta2 ∷ R.List ∷ R.Lis2 ∷ R.Recv ∷ R.Rcv2 (record { 0 = 0 }) ∷ R.Send (record { 0 = 0 })
    ∷ R.Snd2 (record { 0 = 0 }) (record { 0 = 0 })
    ∷ R.Data ∷ R.Done 0 ∷ R.Quit
    ∷ []

pub letters-first : map (λ (q : Request). take 4 (bytes_of_request published (meant q []))) requests
    ≡ ascii "STAT" ∷ ascii "STA2" ∷ ascii "LIST" ∷ ascii "LIS2" ∷ ascii "RECV" ∷ ascii "RCV2" ∷ ascii "SEND" ∷ ascii "SND2" ∷ ascii "DATA" ∷ ascii "DONE" ∷ ascii "QUIT" ∷ []
unfolding bytes_of_request message_of
letters-first = refl

-- mode and flags keep their places
pub adjacent_words : meant (R.Snd2 (record { 0 = 1 }) (record { 0 = 2 })) [] ≡ snd2 [] 1 2
adjacent_words = refl
