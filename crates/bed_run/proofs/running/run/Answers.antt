-- The loop keeps where the run stands, and each way out is an end of the run.
use Rattle.std.proofs.Common.{◌≡◌, length, map, Some, None, sym, ap, subst, ◌∙◌}
use Rattle.bed_machine.specs.Machine.{IsStep, outcome}
use Rattle.bed_run.specs.Hosted.{host_at}
use Rattle.bed_run.specs.Runs.{machine_of}
use Rattle.bed_run.proofs.ListLemmas.{number_within, within_map, within_same}
use Rattle.bed_run.proofs.RunLemmas.{going_start, going_step, going_on, back_inside, call_room, ends_returned, ends_astray, ends_steps, ends_fault, ends_call, fewer_after_call, inside_from, outside_from}
use Rattle.bed_run.proofs.running.run.Goals as goal

pub loop-s-init : goal.loop-s-init
loop-s-init g c = going_start _ _ _ _ c.requires.room

pub returns-in_default-clause-ended : goal.returns-in_default-clause-ended
returns-in_default-clause-ended g c =
    let none : host_at c.args.outside.now c.loop-s.s.eip ≡ None = ap (λ pairs. host_at pairs c.loop-s.s.eip) (sym c.as_slice.ensures) ∙ (sym c.host_at.ensures ∙ c.in_default.is) in
    ends_astray _ _ _ _ _ _ _ c.loop-s.invariant c.loop-s-test.true none
    (outside_from c.args.code.now c.loop-s.s.eip (sym c.is_inside.ensures ∙ c.if-not-is_inside.true))

pub call_at-requires-clause-within : goal.call_at-requires-clause-within
call_at-requires-clause-within g c =
    let some : host_at c.args.outside.now c.loop-s.s.eip ≡ Some c.in-Some.number = ap (λ pairs. host_at pairs c.loop-s.s.eip) (sym c.as_slice.ensures) ∙ (sym c.host_at.ensures ∙ c.in-Some.is) in
    let within = number_within (length c.args.hosts.now.items) c.args.outside.now c.loop-s.s.eip c.in-Some.number c.requires.numbers some in
    within_same _ _ _ c.in-Some.number c.loop-s.invariant.all within

pub call_at-requires-clause-room : goal.call_at-requires-clause-room
call_at-requires-clause-room g c = λ h is.
    call_room _ _ _ _ _ _ _ c.loop-s.invariant c.in-Some.number h
    (outside_from c.args.code.now c.loop-s.s.eip (sym c.is_inside.ensures ∙ c.if-not-is_inside.true)) is

pub returns-in-Some-2-clause-ended : goal.returns-in-Some-2-clause-ended
returns-in-Some-2-clause-ended g c =
    let some : host_at c.args.outside.now c.loop-s.s.eip ≡ Some c.in-Some.number = ap (λ pairs. host_at pairs c.loop-s.s.eip) (sym c.as_slice.ensures) ∙ (sym c.host_at.ensures ∙ c.in-Some.is) in
    let within = number_within (length c.args.hosts.now.items) c.args.outside.now c.loop-s.s.eip c.in-Some.number c.requires.numbers some in
    ends_call _ _ _ _ _ _ _ c.loop-s.invariant c.in-Some.number c.in-Some-2.missing _ _ c.in_ok-missing.field-0 c.loop-s-test.true some (within_map _ _ _ within)
    c.in_ok-missing.ensures.called c.in-Some-2.is

pub loop-s-smaller-then-not-is_inside : goal.loop-s-smaller-then-not-is_inside
loop-s-smaller-then-not-is_inside g c =
    let some : host_at c.args.outside.now c.loop-s.s.eip ≡ Some c.in-Some.number = ap (λ pairs. host_at pairs c.loop-s.s.eip) (sym c.as_slice.ensures) ∙ (sym c.host_at.ensures ∙ c.in-Some.is) in
    let within = number_within (length c.args.hosts.now.items) c.args.outside.now c.loop-s.s.eip c.in-Some.number c.requires.numbers some in
    fewer_after_call c.args.code.now c.loop-s.s.eip c.call_at.new.s.eip c.args.steps c.loop-s.made (sym c.is_inside.ensures ∙ c.if-not-is_inside.true)
    (back_inside _ _ _ _ _ _ _ c.loop-s.invariant c.in-Some.number (machine_of g.D.Store.bytes c.call_at.new.s)
    (map (λ h. (goal.Host-dyn g (h.vtable, h.value)).seen h.value) c.call_at.new.hosts.items) c.in_ok-missing.field-0 c.loop-s-test.true some (within_map _ _ _ within)
    c.requires.back c.in_ok-missing.ensures.called c.in_default-2.is)

pub loop-s-preserved-then-not-is_inside : goal.loop-s-preserved-then-not-is_inside
loop-s-preserved-then-not-is_inside g c =
    let some : host_at c.args.outside.now c.loop-s.s.eip ≡ Some c.in-Some.number = ap (λ pairs. host_at pairs c.loop-s.s.eip) (sym c.as_slice.ensures) ∙ (sym c.host_at.ensures ∙ c.in-Some.is) in
    let within = number_within (length c.args.hosts.now.items) c.args.outside.now c.loop-s.s.eip c.in-Some.number c.requires.numbers some in
    going_on _ _ _ _ _ _ _ c.loop-s.invariant c.in-Some.number _ _ c.in_ok-missing.field-0 c.loop-s-test.true some (within_map _ _ _ within)
    (outside_from c.args.code.now c.loop-s.s.eip (sym c.is_inside.ensures ∙ c.if-not-is_inside.true)) c.requires.back c.in_ok-missing.ensures.called c.in_default-2.is

pub returns-then-made-steps-clause-ended : goal.returns-then-made-steps-clause-ended
returns-then-made-steps-clause-ended g c =
    ends_steps _ _ _ _ _ _ _ c.loop-s.invariant c.requires.apart c.loop-s-test.true
    (inside_from c.args.code.now c.loop-s.s.eip (sym c.is_inside.ensures ∙ c.if-not-is_inside.false)) c.if-made-steps.true

pub returns-in-Err-clause-ended : goal.returns-in-Err-clause-ended
returns-in-Err-clause-ended g c =
    ends_fault _ _ _ _ _ _ _ c.loop-s.invariant c.in-Err.fault _ c.requires.apart c.loop-s-test.true
    (inside_from c.args.code.now c.loop-s.s.eip (sym c.is_inside.ensures ∙ c.if-not-is_inside.false)) c.if-made-steps.false
    c.in-Err.ensures.step c.in-Err.ensures.kept

pub loop-s-preserved : goal.loop-s-preserved
loop-s-preserved g c =
    going_step _ _ _ _ _ _ _ c.loop-s.invariant _ _ c.requires.apart c.loop-s-test.true
    (inside_from c.args.code.now c.loop-s.s.eip (sym c.is_inside.ensures ∙ c.if-not-is_inside.false)) c.if-made-steps.false
    (subst (λ r. IsStep c.args.code.now (machine_of g.D.Store.bytes c.loop-s.s) (outcome r (machine_of g.D.Store.bytes c.step.new.s))) c.in_default-step.is c.step.ensures.step) c.note.ensures

pub returns-clause-ended : goal.returns-clause-ended
returns-clause-ended g c = ends_returned _ _ _ _ _ _ _ c.loop-s.invariant c.loop-s-test.false
