-- `id_table::published` meets its contract: the table over zeros is `settings_of letters` by computing.
use mathlib.Core.List.{List}
use mathlib.Core.Path.{◌≡◌, refl, ap, ◌∙◌}
use Prim.Native.Nat.{ℕ}
use borrow.Author.Rules.{rules}
use borrow.Author.Tests.{eq-eqb, ne_eqb}
use lib.ListN.{length, replicate}
use Rattle.protocol.specs.Bytes.{ascii, over, put}
use Rattle.id_table.specs.Settings.{settings_size, settings_of, begun}
use Rattle.protocol.specs.Ids.{letters}
use Rattle.id_table.proofs.published.Goals as goal

-- the table over zeros
begins : put (replicate settings_size 0) 0 (ascii "STATSTA2LISTLIS2SENDSND2RECVRCV2DATADONEOKAYFAILDENTDNT2QUIT") ≡ settings_of letters
unfolding put over settings_of
begins = refl

pub returns-then-settings-ne-SETTINGS : goal.returns-then-settings-ne-SETTINGS
unfolding begun
returns-then-settings-ne-SETTINGS c = rw (ne_eqb _ _ c.if-settings-ne-SETTINGS.true) (ap (λ (n : ℕ). (c.args.settings.now, n)) c.number.ensures)

pub returns : goal.returns
unfolding begun
returns c =
    let e = c.if-settings-ne-SETTINGS.false in
    let zeros : c.fill.new.self ≡ replicate (length c.args.settings.now) 0 = c.fill.ensures.after (λ y same. search (rules, same)) in
    rw (eq-eqb _ _ e)
    (ap (λ (l : List ℕ). (l, 0))
    (c.put_bytes.ensures
    ∙ rw (zeros, e) begins))
