use Rattle.std.proofs.Common.{map}
use Rattle.bed_run.specs.Runs.{machine_of, start, setting}
use Rattle.bed_run.proofs.RunLemmas.{IsGoing, turns_left}
use Rattle.bed_run.proofs.running.run.Given as goal

abbrev pub invariant-loop-s : goal.invariant-loop-s
invariant-loop-s g l =
    IsGoing (setting l.code l.outside l.r0 l.steps)
    (start (machine_of g.D.Store.bytes l.initial.s) (map (λ h. (goal.Host-dyn g (h.vtable, h.value)).seen h.value) l.initial.hosts.items))
    (machine_of g.D.Store.bytes l.s) (map (λ h. (goal.Host-dyn g (h.vtable, h.value)).seen h.value) l.hosts.items) l.initial.trace l.trace l.made

abbrev pub decreases-loop-s : goal.decreases-loop-s
decreases-loop-s g l = turns_left l.code l.s.eip l.steps l.made
