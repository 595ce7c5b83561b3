-- The numbers of a stat, as they cross: they are there, and those of 32 bits fit.
-- Assumes nothing.
use Prim.Native.Nat.{ℕ, ◌≤◌}
use mathlib.Core.Bool.{Bool, true, ◌&&◌, and-eq-true_iff}
use mathlib.Core.List.{List}
use mathlib.Core.Path.{◌≡◌}
use borrow.Author.Tests.{leb-true}
use lib.Dec.{leb}
use lib.ListN.{length}
use Rattle.boundary.specs.Heard.{at}
use Rattle.panel_reply.specs.Replies.{fits32}
use Rattle.panel_side.specs.Crossing.{stat_in, stat2_in, stat_narrow, stat2_narrow, stat_room, stat2_room}

pub record Narrow (n : List ℕ) : Type 0 where
  pub room : stat_room ≤ length n
  pub mode : fits32 (at n 0) ≡ true
  pub size : fits32 (at n 1) ≡ true
  pub mtime : fits32 (at n 2) ≡ true

pub record Narrow2 (n : List ℕ) : Type 0 where
  pub room : stat2_room ≤ length n
  pub error : fits32 (at n 0) ≡ true
  pub mode : fits32 (at n 3) ≡ true
  pub nlink : fits32 (at n 4) ≡ true
  pub uid : fits32 (at n 5) ≡ true
  pub gid : fits32 (at n 6) ≡ true

pub narrow : (n : List ℕ) → leb stat_room (length n) && stat_narrow (stat_in n) ≡ true → Narrow n
narrow n h =
    let three = (and-eq-true_iff (leb stat_room (length n)) (stat_narrow (stat_in n))).0 h in
    let two = (and-eq-true_iff (fits32 (at n 0) && fits32 (at n 1)) (fits32 (at n 2))).0 three.1 in
    let one = (and-eq-true_iff (fits32 (at n 0)) (fits32 (at n 1))).0 two.0 in
    record { room = leb-true stat_room (length n) three.0; mode = one.0; size = one.1; mtime = two.1 }

pub narrow2 : (n : List ℕ) → leb stat2_room (length n) && stat2_narrow (stat2_in n) ≡ true → Narrow2 n
narrow2 n h =
    let f : ℕ → Bool = λ i. fits32 (at n i) in
    let five = (and-eq-true_iff (leb stat2_room (length n)) (stat2_narrow (stat2_in n))).0 h in
    let four = (and-eq-true_iff (f 0 && f 3 && f 4 && f 5) (f 6)).0 five.1 in
    let three = (and-eq-true_iff (f 0 && f 3 && f 4) (f 5)).0 four.0 in
    let two = (and-eq-true_iff (f 0 && f 3) (f 4)).0 three.0 in
    let one = (and-eq-true_iff (f 0) (f 3)).0 two.0 in
    record { room = leb-true stat2_room (length n) five.0; error = one.0; mode = one.1; nlink = two.1; uid = three.1; gid = four.1 }
