-- What the loop of a run keeps, turn by turn, and how it ends.
use Rattle.std.proofs.Common.{◌≡◌, ◌≢◌, ℕ, ◌+◌, ◌-◌, ◌*◌, ◌<◌, ◌≤◌, List, [], ◌∷◌, ◌++◌, length, slice_set, Bool, true, false, nat_le, nat_lt, Option, None, Some, IsSome, Ok, Err, refl, sym, ap, subst, ◌∙◌, arith, append_assoc, length-append}
use Rattle.std.proofs.lemmas.Bool.{and_parts, and_from, leb-true, ltb-true, le-leb, lt-ltb}
use Rattle.std.proofs.lemmas.List.{length-set}
use Rattle.std.proofs.lemmas.List.Elements.{All-set, All-weaker}
use Rattle.std.specs.List.{All, slice_get}
use Rattle.circular_buffer.specs.Buffer.{keep_last}
use Rattle.bed_machine.specs.MachineCode.{MachineCode, IsInCode}
use Rattle.bed_machine.specs.Machine.{MachineState, IsStep}
use Rattle.bed_machine.specs.declared.machine.Fault.{Fault}
use Rattle.bed_machine.specs.declared.machine.Fault.TheVariants.{Unmapped}
use Rattle.bed_io.specs.Host.{HostState, next_answer, called}
use Rattle.bed_run.specs.Hosted.{Setting, Situation, host_at, AreArguments, IsAtHost, IsAtNone, Calls, Makes, Stays, Goes, IsEnd, Returns, Misses, Leaves, Stops, Faults, ComesBack, answered}
use Rattle.bed_run.specs.Calls.{IsAnswered, IsRefused, IsCall}
use Rattle.bed_run.specs.Runs.{start, HasRun, HasEnded}
use Rattle.bed_run.specs.Inside.{is_inside}
use Rattle.bed_run.specs.declared.ended.Ended.TheVariants.{Returned, Steps, Stuck, Astray}
use Rattle.bed_run.proofs.ListLemmas.{all_at, within_has, none_at, kept_more, kept_all}

-- turns have led here, with so many instructions; the logs have room for as many calls as instructions are left, and
-- for one more where control is at a host
pub record IsGoing (g : Setting) (from : Situation) (machine : MachineState) (hosts : List HostState) (old new : ℕ × List ℕ) (count : ℕ) : Type 0 where
  pub run : HasRun g from machine hosts old new
  pub counted : length run.made ≡ count
  pub few : count ≤ g.steps
  pub all : length hosts ≡ length from.hosts
  pub room : All (λ host. length host.log + (g.steps - count) ≤ 4294967291) hosts
  pub outside_room : (IsInCode g.code machine.eip → ⊥) → All (λ host. length host.log + (g.steps - count) ≤ 4294967290) hosts

pub going_start : (g : Setting) (machine : MachineState) (hosts : List HostState) (trace : ℕ × List ℕ)
    → All (λ host. length host.log + g.steps ≤ 4294967290) hosts → IsGoing g (start machine hosts) machine hosts trace trace 0
going_start g machine hosts trace room = record {
  run = record { made = []; turns = Stays; traced = λ fits. ap (λ l. (trace.0, l)) (kept_all trace.0 trace.1 fits) };
  counted = refl;
  few = omega arith;
  all = refl;
  room = All-weaker (λ host. length host.log + g.steps ≤ 4294967290) (λ host. length host.log + (g.steps - 0) ≤ 4294967291) (λ host h. omega (arith, h)) hosts room;
  outside_room = λ out. All-weaker (λ host. length host.log + g.steps ≤ 4294967290) (λ host. length host.log + (g.steps - 0) ≤ 4294967290) (λ host h. omega (arith, h)) hosts room;
}

module _ (g : Setting) (from : Situation) (machine : MachineState) (hosts : List HostState) (old new : ℕ × List ℕ) (count : ℕ) (going : IsGoing g from machine hosts old new count) where
  abbrev pub here : Situation
  here = record { machine = machine; hosts = hosts; made = going.run.made }

  -- control isn't at a host where it is in the code
  at_none : All (λ pair. IsInCode g.code pair.0 → ⊥) g.outside → machine.eip ≢ g.back → IsInCode g.code machine.eip → IsAtNone g here
  at_none apart away inside = record { away = away; inside = none_at (IsInCode g.code) g.outside machine.eip apart inside }

  -- one more instruction
  pub going_step : (next : MachineState) (noted : ℕ × List ℕ) → All (λ pair. IsInCode g.code pair.0 → ⊥) g.outside → machine.eip ≢ g.back → IsInCode g.code machine.eip
      → count ≢ g.steps → IsStep g.code machine (Ok next) → noted ≡ (new.0, keep_last new.0 (new.1 ++ machine.eip ∷ [])) → IsGoing g from next hosts old noted (count + 1)
  going_step next noted apart away inside left step is =
      let more : count < g.steps = let few = going.few in omega arith in
      let counted = going.counted in
      record {
        run = record {
          made = going.run.made ++ machine.eip ∷ [];
          turns = Goes here _ going.run.turns (Makes next (at_none apart away inside) (omega (arith, counted)) step);
          traced = λ fits. is ∙ (ap (λ t. (t.0, keep_last t.0 (t.1 ++ machine.eip ∷ []))) (going.run.traced fits)
              ∙ ap (λ l. (old.0, l)) (kept_more old.0 (old.1 ++ going.run.made) machine.eip ∙ ap (keep_last old.0) (append_assoc old.1 going.run.made (machine.eip ∷ []))));
        };
        counted = length-append going.run.made (machine.eip ∷ []) ∙ ap (λ n. n + 1) counted;
        few = omega arith;
        all = going.all;
        room = All-weaker (λ host. length host.log + (g.steps - count) ≤ 4294967291) (λ host. length host.log + (g.steps - (count + 1)) ≤ 4294967291) (λ host h. omega (arith, h)) hosts going.room;
        outside_room = λ out. All-weaker (λ host. length host.log + (g.steps - count) ≤ 4294967291) (λ host. length host.log + (g.steps - (count + 1)) ≤ 4294967290) (λ host h. omega (arith, h, more)) hosts going.room;
      }

  -- the log of a host that is called has room
  pub call_room : (number : ℕ) (host : HostState) → (IsInCode g.code machine.eip → ⊥) → slice_get hosts number ≡ Some host → length host.log < 4294967295
  call_room number host out is =
      let room : length host.log + (g.steps - count) ≤ 4294967290 = all_at (λ host. length host.log + (g.steps - count) ≤ 4294967290) hosts number host is (going.outside_room out) in
      omega arith

  going_answered : (number : ℕ) (host : HostState) (args : List ℕ) → IsAtHost g here number host → (IsInCode g.code machine.eip → ⊥)
      → IsInCode g.code machine.regs.esi → AreArguments machine.memory machine.regs.ebp host.arity args
      → IsGoing g from (answered machine (next_answer host)) (slice_set hosts number (called host args)) old new count
  going_answered number host args at out back are =
      let room : length host.log + (g.steps - count) ≤ 4294967290 = all_at (λ host. length host.log + (g.steps - count) ≤ 4294967290) hosts number host at.is (going.outside_room out) in
      record {
        run = record { made = going.run.made; turns = Goes here _ going.run.turns (Calls number host args at are); traced = going.run.traced };
        counted = going.counted;
        few = going.few;
        all = length-set hosts number (called host args) ∙ going.all;
        room = All-set (λ host. length host.log + (g.steps - count) ≤ 4294967291) hosts number (called host args) (omega (arith, room, length-append host.log ((args, next_answer host) ∷ []))) going.room;
        outside_room = λ away. absurd (away back);
      }

  -- a host's call
  pub going_call : (number : ℕ) (host : HostState) (now : MachineState) (after : List HostState) → machine.eip ≢ g.back → host_at g.outside machine.eip ≡ Some number
      → slice_get hosts number ≡ Some host → (IsInCode g.code machine.eip → ⊥) → ComesBack g from → IsAnswered machine hosts number host now after
      → IsGoing g from now after old new count
  going_call number host now after away outside is out back call =
      let some : IsSome (host_at g.outside machine.eip) = subst (λ o. IsSome o) (sym outside) refl in
      let inside : IsInCode g.code machine.regs.esi = back here going.run.turns away some in
      subst (λ hs. IsGoing g from now hs old new count) (sym call.hosts_are)
      (subst (λ m. IsGoing g from m (slice_set hosts number (called host call.args)) old new count) (sym call.machine_is)
      (going_answered number host call.args (record { away = away; outside = outside; is = is }) out inside call.are))

  -- the ends
  pub ends_returned : machine.eip ≡ g.back → HasEnded g from machine hosts old new (Returned machine.regs.eax count)
  ends_returned e = record { run = going.run; ends = subst (λ n. IsEnd g here (Returned machine.regs.eax n)) going.counted (Returns e) }

  pub ends_astray : machine.eip ≢ g.back → host_at g.outside machine.eip ≡ None → (IsInCode g.code machine.eip → ⊥) → HasEnded g from machine hosts old new (Astray machine.eip)
  ends_astray away outside out = record { run = going.run; ends = Leaves (record { away = away; inside = outside }) out }

  pub ends_steps : All (λ pair. IsInCode g.code pair.0 → ⊥) g.outside → machine.eip ≢ g.back → IsInCode g.code machine.eip → count ≡ g.steps → HasEnded g from machine hosts old new (Steps machine.eip)
  ends_steps apart away inside all_made = let counted = going.counted in record { run = going.run; ends = Stops (at_none apart away inside) inside (omega (arith, counted, all_made)) }

  pub ends_fault : (fault : Fault) (now : MachineState) → All (λ pair. IsInCode g.code pair.0 → ⊥) g.outside → machine.eip ≢ g.back → IsInCode g.code machine.eip → count ≢ g.steps
      → IsStep g.code machine (Err fault) → now ≡ machine → HasEnded g from now hosts old new (Stuck fault machine.eip)
  ends_fault fault now apart away inside left step stays =
      let counted = going.counted in
      let few = going.few in
      subst (λ m. HasEnded g from m hosts old new (Stuck fault machine.eip)) (sym stays)
      (record { run = going.run; ends = Faults fault (at_none apart away inside) inside (omega arith) step })

  pub ends_missing : (number : ℕ) (host : HostState) (at : ℕ) (now : MachineState) (after : List HostState) → machine.eip ≢ g.back → host_at g.outside machine.eip ≡ Some number
      → slice_get hosts number ≡ Some host → IsRefused machine hosts host at now after → HasEnded g from now after old new (Stuck (Unmapped at) machine.eip)
  ends_missing number host at now after away outside is refused =
      subst (λ hs. HasEnded g from now hs old new (Stuck (Unmapped at) machine.eip)) (sym refused.hosts_stay)
      (subst (λ m. HasEnded g from m hosts old new (Stuck (Unmapped at) machine.eip)) (sym refused.machine_stays)
      (record { run = going.run; ends = Misses number host at (record { away = away; outside = outside; is = is }) refused.missing }))

  -- a host's number is that of one
  pub host_of : (number : ℕ) → number < length from.hosts → (host : HostState) × (slice_get hosts number ≡ Some host)
  host_of number within = within_has hosts number (let all = going.all in omega (arith, all, within))

  -- what a call of the host at this address leaves, by what it answers: a call, or the end
  pub going_on : (number : ℕ) (now : MachineState) (after : List HostState) (missing : Option ℕ) → machine.eip ≢ g.back → host_at g.outside machine.eip ≡ Some number
      → number < length from.hosts → (IsInCode g.code machine.eip → ⊥) → ComesBack g from
      → ((host : HostState) → slice_get hosts number ≡ Some host → IsCall machine hosts number host now after missing) → missing ≡ None → IsGoing g from now after old new count
  going_on number now after missing away outside within out back called none =
      let host = host_of number within in
      going_call number host.0 now after away outside host.1 out back (subst (λ o. IsCall machine hosts number host.0 now after o) none (called host.0 host.1))

  pub back_inside : (number : ℕ) (now : MachineState) (after : List HostState) (missing : Option ℕ) → machine.eip ≢ g.back → host_at g.outside machine.eip ≡ Some number
      → number < length from.hosts → ComesBack g from
      → ((host : HostState) → slice_get hosts number ≡ Some host → IsCall machine hosts number host now after missing) → missing ≡ None → IsInCode g.code now.eip
  back_inside number now after missing away outside within back called none =
      let host = host_of number within in
      let call : IsAnswered machine hosts number host.0 now after = subst (λ o. IsCall machine hosts number host.0 now after o) none (called host.0 host.1) in
      let some : IsSome (host_at g.outside machine.eip) = subst (λ o. IsSome o) (sym outside) refl in
      subst (λ (m : MachineState). IsInCode g.code m.eip) (sym call.machine_is) (back here going.run.turns away some)

  pub ends_call : (number at : ℕ) (now : MachineState) (after : List HostState) (missing : Option ℕ) → machine.eip ≢ g.back → host_at g.outside machine.eip ≡ Some number
      → number < length from.hosts → ((host : HostState) → slice_get hosts number ≡ Some host → IsCall machine hosts number host now after missing) → missing ≡ Some at
      → HasEnded g from now after old new (Stuck (Unmapped at) machine.eip)
  ends_call number at now after missing away outside within called some =
      let host = host_of number within in
      ends_missing number host.0 at now after away outside host.1 (subst (λ o. IsCall machine hosts number host.0 now after o) some (called host.0 host.1))

-- how many turns there may be: two for each instruction that is left, and one where control is outside of the code
abbrev pub weight : Bool → ℕ
weight true = 0
weight false = 1

abbrev pub turns_left : MachineCode → ℕ → ℕ → ℕ → ℕ
turns_left code eip steps count = 2 * (steps - count) + weight (is_inside code eip)

pub inside_from : (c : MachineCode) (a : ℕ) → is_inside c a ≡ true → IsInCode c a
inside_from c a e = let both = and_parts (nat_le c.base a) (nat_lt a (c.base + length c.bytes)) e in (leb-true c.base a both.0, ltb-true a (c.base + length c.bytes) both.1)

pub inside_to : (c : MachineCode) (a : ℕ) → IsInCode c a → is_inside c a ≡ true
inside_to c a h = and_from (nat_le c.base a) (nat_lt a (c.base + length c.bytes)) (le-leb c.base a h.0) (lt-ltb a (c.base + length c.bytes) h.1)

pub outside_from : (c : MachineCode) (a : ℕ) → is_inside c a ≡ false → IsInCode c a → ⊥
outside_from c a e h = let t = inside_to c a h in cc

-- a call leaves fewer turns, since it goes from outside of the code into it
pub fewer_after_call : (code : MachineCode) (eip next steps count : ℕ) → is_inside code eip ≡ false → IsInCode code next → turns_left code next steps count < turns_left code eip steps count
fewer_after_call code eip next steps count out inside =
    let a : weight (is_inside code eip) ≡ 1 = ap weight out in
    let b : weight (is_inside code next) ≡ 0 = ap weight (inside_to code next inside) in
    omega (arith, a, b)
