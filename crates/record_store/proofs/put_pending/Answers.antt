-- `record_store::put_pending` meets its contract: in each arm the numbers are those of the step that was matched.
use Rattle.record.specs.Fields.{phase_numbers, request_numbers, step_numbers}
use Rattle.record_store.proofs.Puts.{step-put}
use mathlib.Core.List.{[], ◌∷◌}
use mathlib.Core.Path.{refl, sym, ap}
use Rattle.record_store.proofs.put_pending.Goals as goal

pub returns-in-Idle : goal.returns-in-Idle
returns-in-Idle c =
    let a = c.args in
    step-put a.rec.now (0 ∷ 0 ∷ 0 ∷ 0 ∷ 0 ∷ []) [] (step_numbers a.pending) c.requires refl c.put_state.ensures c.put_registers.ensures
    (ap step_numbers (sym c.in-Idle.is))

pub returns-in-Reading : goal.returns-in-Reading
returns-in-Reading c =
    let a = c.args in
    let step = c.in-Reading in
    step-put a.rec.now (c.phase_state.result ∷ c.bit.result ∷ step.until ∷ 0 ∷ 0 ∷ []) (phase_numbers step.phase) (step_numbers a.pending) c.requires refl c.put_state-in-Reading.ensures c.put_phase.ensures
    (rw (c.phase_state.ensures, c.bit.ensures.0) (ap step_numbers (sym step.is)))

pub returns-in-Writing : goal.returns-in-Writing
returns-in-Writing c =
    let a = c.args in
    let step = c.in-Writing in
    step-put a.rec.now (c.request_state.result ∷ 0 ∷ 0 ∷ step.at ∷ step.piece ∷ []) (request_numbers step.request) (step_numbers a.pending) c.requires refl c.put_state-in-Writing.ensures c.put_request.ensures
    (rw c.request_state.ensures (ap step_numbers (sym step.is)))

pub returns-in-Closing : goal.returns-in-Closing
returns-in-Closing c =
    let a = c.args in
    let step = c.in-Closing in
    step-put a.rec.now (12 ∷ c.bit-in-Closing.result ∷ 0 ∷ 0 ∷ 0 ∷ []) (step.code ∷ []) (step_numbers a.pending) c.requires refl c.put_state-in-Closing.ensures c.put_registers-in-Closing.ensures
    (rw c.bit-in-Closing.ensures.0 (ap step_numbers (sym step.is)))
