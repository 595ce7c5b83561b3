-- Facts on the banner: "Find the first "features="; split what follows at each comma or semicolon; present if some piece equals the name.
-- Absent marker: no. The session numbers its features: 1 stat_v2, 2 ls_v2, 3 sendrecv_v2, 4 to 6 those of the flags 1, 2, 4, 7 dry-run send"
-- (document 01); the flags' names are Brotli 1, LZ4 2 and Zstd 4 (file_sync_protocol.h).
-- Assumes nothing.
use Rattle.std.specs.Prelude.{Bool, true, false, List, [], ◌∷◌, ◌++◌, map, ◌≡◌, ℕ, ◌<◌, length, get_or, take, drop}
use Rattle.protocol.specs.Bytes.{pick, ascii, has}
use Rattle.protocol.specs.Features.{has_feature, features_of}

-- a banner, and the numbers of its features
pub record Row : Type 0 where
  pub banner : List ℕ
  pub numbers : List ℕ

abbrev row : (banner : List ℕ) → (numbers : List ℕ) → Row
row banner ns = record { banner = banner; numbers = ns }

-- whether each of the seven is among them
abbrev pub paper : Row → List Bool
paper r = map (λ n. has n r.numbers) (1 ∷ 2 ∷ 3 ∷ 4 ∷ 5 ∷ 6 ∷ 7 ∷ [])

-- one name in four banners: alone, between commas, between semicolons, last
abbrev single : (name : List ℕ) → (number : ℕ) → List Row
single name n =
    row (ascii "features=" ++ name) (n ∷ [])
    ∷ row (ascii "device::ro.product.name=x;features=cmd," ++ name ++ ascii ",shell_v2") (n ∷ [])
    ∷ row (ascii "features=cmd;" ++ name ++ ascii ";shell_v2") (n ∷ [])
    ∷ row (ascii "device::features=shell_v2,cmd;" ++ name) (n ∷ [])
    ∷ []

abbrev pub banners : List Row
banners =
    single (ascii "stat_v2") 1
    ++ single (ascii "ls_v2") 2
    ++ single (ascii "sendrecv_v2") 3
    ++ single (ascii "sendrecv_v2_brotli") 4
    ++ single (ascii "sendrecv_v2_lz4") 5
    ++ single (ascii "sendrecv_v2_zstd") 6
    ++ single (ascii "sendrecv_v2_dry_run_send") 7
    ++ row (ascii "features=stat_v2,ls_v2;sendrecv_v2,sendrecv_v2_brotli;sendrecv_v2_lz4,sendrecv_v2_zstd;sendrecv_v2_dry_run_send")
    (1 ∷ 2 ∷ 3 ∷ 4 ∷ 5 ∷ 6 ∷ 7 ∷ [])
    -- no marker, one cut short, one in another case; nothing behind it
    ∷ row (ascii "stat_v2,ls_v2") []
    ∷ row (ascii "feature=stat_v2") []
    ∷ row (ascii "Features=stat_v2") []
    ∷ row [] []
    ∷ row (ascii "features=") []
    ∷ row (ascii "features=,;,") []
    -- what stands before the marker, and behind the second one
    ∷ row (ascii "stat_v2;features=ls_v2") (2 ∷ [])
    ∷ row (ascii "features=ls_v2;features=stat_v2") (2 ∷ [])
    ∷ row (ascii "xfeatures=ls_v2") (2 ∷ [])
    ∷ row (ascii "featurefeatures=ls_v2") (2 ∷ [])
    -- a piece equals the name, or it is no such feature: longer, shorter, another case, with a blank, cut at another byte
    ∷ row (ascii "features=stat_v22,xls_v2,sendrecv_v,SENDRECV_V2, ls_v2,ls_v2 ") []
    ∷ row (ascii "features=ls_v2:stat_v2") []
    ∷ row (ascii "features=ls_v2|stat_v2 stat_v2") []
    -- "Four of the other six feature names begin with the third" (document 02, [3]): pieces that only begin like a name, a tail alone or in
    -- front, names run together
    ∷ row (ascii "features=sendrecv_v2_,sendrecv_v2_lz,sendrecv_v2_lz44,sendrecv_v2_lz5,sendrecv_v3_lz4,sendrecv_lz4,sendrecv") []
    ∷ row (ascii "features=_lz4,lz4,_lz4sendrecv_v2,_brotli,_zstd;_dry_run_send;_") []
    ∷ row (ascii "features=sendrecv_v2sendrecv_v2,sendrecv_v2sendrecv_v2_lz4,sendrecv_v2_lz4_zstd,sendrecv_v2stat_v2,stat_v2ls_v2,ls_v2_lz4") []
    ∷ []

-- ---- as laws, of every banner

abbrev pub the_marker : List ℕ
the_marker = ascii "features="

abbrev comma : ℕ
comma = 44

abbrev semicolon : ℕ
semicolon = 59

-- a list of features is a piece and further ones, each behind a comma or a semicolon
pub record Further : Type 0 where
  pub by_semicolon : Bool
  pub piece : List ℕ

abbrev pub separated : List ℕ → List Further → List ℕ
separated p [] = p
separated p (n ∷ ns) = p ++ pick n.by_semicolon semicolon comma ∷ separated n.piece ns

abbrev pub pieces_in : List ℕ → List Further → List (List ℕ)
pieces_in p ns = p ∷ map (λ (n : Further). n.piece) ns

-- any bytes but these two
abbrev pub NoSeparator : List ℕ → Type 0
NoSeparator [] = Unit {0}
NoSeparator (b ∷ p) = (b ≡ comma → ⊥) × (b ≡ semicolon → ⊥) × NoSeparator p

abbrev pub NoSeparators : List (List ℕ) → Type 0
NoSeparators [] = Unit {0}
NoSeparators (p ∷ ps) = NoSeparator p × NoSeparators ps

-- the marker stands in s from i on
abbrev pub MarkerAt : List ℕ → ℕ → Type 0
MarkerAt s i = take (length the_marker) (drop i s) ≡ the_marker

pub record BannersRead : Type 0 where
  -- "present if some piece equals the name": each of the pieces is, and nothing else
  pub present : (p : List ℕ) (ns : List Further) → NoSeparators (pieces_in p ns) → (i : ℕ) → i < length (pieces_in p ns)
      → has_feature (the_marker ++ separated p ns) (get_or (pieces_in p ns) i []) ≡ true
  pub not_present : (p : List ℕ) (ns : List Further) → NoSeparators (pieces_in p ns) → (name : List ℕ)
      → ((i : ℕ) → i < length (pieces_in p ns) → get_or (pieces_in p ns) i [] ≡ name → ⊥) → has_feature (the_marker ++ separated p ns) name ≡ false
  -- "Find the first": what stands before it does not count
  pub first : (front rest name : List ℕ) → ((i : ℕ) → i < length front → MarkerAt (front ++ the_marker ++ rest) i → ⊥)
      → has_feature (front ++ the_marker ++ rest) name ≡ has_feature (the_marker ++ rest) name
  -- "Absent marker: no"
  pub no_marker : (banner name : List ℕ) → ((i : ℕ) → MarkerAt banner i → ⊥) → has_feature banner name ≡ false
  -- the seven by their numbers
  pub seven : (banner : List ℕ)
      → features_of banner
      ≡ map (has_feature banner)
      (ascii "stat_v2" ∷ ascii "ls_v2" ∷ ascii "sendrecv_v2" ∷ ascii "sendrecv_v2_brotli" ∷ ascii "sendrecv_v2_lz4" ∷ ascii "sendrecv_v2_zstd"
      ∷ ascii "sendrecv_v2_dry_run_send" ∷ [])
