-- `fast_replies::entry_len` meets its contract.
use mathlib.Core.Path.{◌≡◌, sym, ap, ◌∙◌}
use Prim.Native.Nat.{ℕ, ◌-◌}
use native.Mathlib.Omega.{arith}
use Rattle.protocol.specs.Bytes.{bytes_of}
use Rattle.protocol.specs.Records.{u32_at}
use Rattle.session.specs.Phases.{entry_id_of}
use Rattle.fast_record.proofs.Found.{found_none, found-some}
use Rattle.fast_replies.specs.Direct.{dialect_held, heads, name_length_of}
use Rattle.fast_replies.proofs.Entries.{u32_read, name-number, entry-short, entry_other, entry-cut, entry-all}
use Rattle.fast_replies.proofs.Whole.{entry-size}
use Rattle.fast_replies.proofs.entry_len.Goals.{After-heads, After-u32_at-name, then-x-size-via-then-x-size, then-x-size-via-else-x-size+then-not-heads}
use Rattle.fast_replies.proofs.entry_len.Goals as goal

-- the header is tested
tests : (c : After-heads)
    → let a = c.args in
    c.heads.result ≡ heads (dialect_held a.rec.now) ((dialect_held a.rec.now).bytes (entry_id_of a.v)) a.x.now
tests c =
    let a = c.args in
    c.heads.ensures ∙ ap (λ (n : ℕ). heads (dialect_held a.rec.now) (bytes_of 4 n) a.x.now) c.entry_number.ensures

-- the length of its name
name : (c : After-u32_at-name)
    → let a = c.args in
    c.u32_at-name.result ≡ name_length_of a.v a.x.now
name c =
    let a = c.args in
    let z = entry-size a.v in
    c.u32_at-name.ensures
    ∙ u32_read a.x.now _ (omega arith)
    ∙ ap (λ (k : ℕ). u32_at (k - 4) a.x.now) c.entry_size-size.ensures
    ∙ name-number a.v a.x.now

pub returns-then-x-size : goal.returns-then-x-size
returns-then-x-size c =
    let a = c.args in
    found_none (elim c.then-x-size.branch [
      | then-x-size-via-then-x-size w ↦ entry-short (dialect_held a.rec.now) a.v a.x.now (omega arith)
      | then-x-size-via-else-x-size+then-not-heads w ↦ entry_other (dialect_held a.rec.now) a.v a.x.now (omega arith) (rw w.entry_number.ensures at (sym w.heads.ensures ∙ w.if-not-heads.true))
    ])

pub returns-then-left-name : goal.returns-then-left-name
returns-then-left-name c =
    let a = c.args in
    found_none (entry-cut (dialect_held a.rec.now) a.v a.x.now (omega arith) (sym (tests (goal.at.returns-then-left-name c).After-heads) ∙ c.if-not-heads.false)
    (omega (arith, name (goal.at.returns-then-left-name c).After-u32_at-name)))

pub returns : goal.returns
returns c =
    let a = c.args in
    let n = name (goal.at.returns c).After-u32_at-name in
    let z = entry-size a.v in
    found-some (omega arith)
    (rw (c.entry_size-size.ensures, n)
    (entry-all (dialect_held a.rec.now) a.v a.x.now (omega arith) (sym (tests (goal.at.returns c).After-heads) ∙ c.if-not-heads.false) (omega (arith, n))))
