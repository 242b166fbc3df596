-- A run has one end: a situation has one next turn, or none and one end.
use Rattle.std.proofs.Common.{◌≡◌, ℕ, suc, ◌+◌, ◌<◌, ◌⊎◌, inl, inr, List, [], ◌∷◌, length, Option, Some, None, IsSome, Result, Ok, Err, refl, sym, ap, ap₂, subst, ◌∙◌, arith}
use Rattle.std.specs.List.{slice_get}
use Rattle.std.proofs.lemmas.Bool.{cases_order}
use Rattle.bed_machine.specs.Memory.{Memory}
use Rattle.bed_machine.specs.MachineCode.{IsInCode}
use Rattle.bed_machine.specs.Machine.{MachineState, IsStep, Outside, NoInstruction}
use Rattle.bed_machine.specs.declared.machine.Fault.{Fault}
use Rattle.bed_machine.specs.declared.machine.Fault.TheVariants.{Unmapped}
use Rattle.bed_machine.specs.Machine.{Makes as MakesStep}
use Rattle.bed_machine.proofs.StepLaws.{step_only}
use Rattle.bed_io.specs.Host.{HostState}
use Rattle.bed_run.specs.declared.ended.Ended.{Ended}
use Rattle.bed_run.specs.declared.ended.Ended.TheVariants.{Stuck}
use Rattle.bed_run.specs.Hosted.{Setting, Situation, host_at, argument, argument_address, AreArguments, IsMissing, IsAtHost, IsAtNone, after_call, after_step, Turn, Calls, Makes, Turns, Stays, Goes, IsEnd, Returns, Misses, Leaves, Stops, Faults, ComesBack}
use Rattle.bed_run.proofs.ListLemmas.{within_has}

some_is : {X : Type 0} (o : Option X) (x y : X) → o ≡ Some x → o ≡ Some y → x ≡ y
some_is o x y e f = cc

not_both : {X : Type 0} (o : Option X) (x : X) → o ≡ None → o ≡ Some x → ⊥
not_both o x e f = cc

ok_same : (m n : MachineState) → ◌≡◌ {A = Result MachineState Fault} (Ok m) (Ok n) → m ≡ n
ok_same m n e = cc

err_same : (f g : Fault) → ◌≡◌ {A = Result MachineState Fault} (Err f) (Err g) → f ≡ g
err_same f g e = cc

ok_or_err : (m : MachineState) (f : Fault) → ◌≡◌ {A = Result MachineState Fault} (Ok m) (Err f) → ⊥
ok_or_err m f e = cc

-- Arguments

same_items : (xs ys : List ℕ) → length xs ≡ length ys → ((k : ℕ) → k < length xs → slice_get xs k ≡ slice_get ys k) → xs ≡ ys
same_items [] [] e h = refl
same_items [] (y ∷ ys) e h = absurd (omega (arith, e))
same_items (x ∷ xs) [] e h = absurd (omega (arith, e))
same_items (x ∷ xs) (y ∷ ys) e h =
    ap₂ (λ z zs. z ∷ zs) (some_is (Some x) x y refl (h 0 (omega arith))) (same_items xs ys (omega (arith, e)) (λ k below. h (suc k) (omega (arith, below))))

one_list : (m : Memory) (ebp arity : ℕ) (args others : List ℕ) → AreArguments m ebp arity args → AreArguments m ebp arity others → args ≡ others
one_list m ebp arity args others a b =
    let e : length args ≡ arity = a.count in
    let f : length others ≡ arity = b.count in
    same_items args others (omega arith) (λ k below. sym (a.words k (omega arith)) ∙ b.words k (omega arith))

there_or_not : (m : Memory) (ebp arity at : ℕ) (args : List ℕ) → AreArguments m ebp arity args → IsMissing m ebp arity at → ⊥
there_or_not m ebp arity at args a b =
    let e : length args ≡ arity = a.count in
    let within : b.before < arity = b.within in
    let got : (x : ℕ) × (slice_get args b.before ≡ Some x) = within_has args b.before (omega arith) in
    not_both (argument m ebp (b.before + 1)) got.0 b.missing (a.words b.before within ∙ got.1)

is_some_none : (o : Option ℕ) → o ≡ None → IsSome o → ⊥
is_some_none o e some = let never : IsSome {T = ℕ} None = subst (λ p. IsSome p) e some in cc

one_missing : (m : Memory) (ebp arity at other : ℕ) → IsMissing m ebp arity at → IsMissing m ebp arity other → at ≡ other
one_missing m ebp arity at other a b = elim (cases_order a.before b.before) [
  | inl same ↦ a.address ∙ (ap (λ n. argument_address ebp (n + 1)) same ∙ sym b.address)
  | inr (inl less) ↦ absurd (is_some_none (argument m ebp (a.before + 1)) a.missing (b.there a.before less))
  | inr (inr more) ↦ absurd (is_some_none (argument m ebp (b.before + 1)) b.missing (a.there b.before more))
]

-- Hosts

module _ (g : Setting) (s : Situation) where
  one_number : (n m : ℕ) (h k : HostState) → IsAtHost g s n h → IsAtHost g s m k → n ≡ m
  one_number n m h k a b = some_is (host_at g.outside s.machine.eip) n m a.outside b.outside

  one_host : (n m : ℕ) (h k : HostState) → IsAtHost g s n h → IsAtHost g s m k → h ≡ k
  one_host n m h k a b = some_is (slice_get s.hosts n) h k a.is (ap (slice_get s.hosts) (one_number n m h k a b) ∙ b.is)

  host_or_none : (n : ℕ) (h : HostState) → IsAtHost g s n h → IsAtNone g s → ⊥
  host_or_none n h a b = not_both (host_at g.outside s.machine.eip) n b.inside a.outside

  not_makes : (m : MachineState) → (IsInCode g.code s.machine.eip → ⊥) → IsStep g.code s.machine (Ok m) → ⊥
  not_makes m out (Outside away e) = cc
  not_makes m out (NoInstruction inside none e) = cc
  not_makes m out (MakesStep inside i size begins e) = out inside

  -- Turns

  -- one situation follows
  pub turn_only : (t u : Situation) → Turn g s t → Turn g s u → t ≡ u
  turn_only t u (Calls n h args a are) (Calls m k others b these) =
      let number : n ≡ m = one_number n m h k a b in
      let host : h ≡ k = one_host n m h k a b in
      let words : args ≡ others = one_list s.machine.memory s.machine.regs.ebp h.arity args others are
      (subst (λ j. AreArguments s.machine.memory s.machine.regs.ebp j.arity others) (sym host) these) in
      ap (λ i. after_call s i h args) number ∙ (ap (λ j. after_call s m j args) host ∙ ap (λ list. after_call s m k list) words)
  turn_only t u (Calls n h args a are) (Makes m b left step) = absurd (host_or_none n h a b)
  turn_only t u (Makes m a left step) (Calls n h args b are) = absurd (host_or_none n h b a)
  turn_only t u (Makes m a left step) (Makes n b more other) = ap (after_step s) (ok_same m n (step_only g.code s.machine (Ok m) (Ok n) step other))

  -- none follows an end
  pub end_stays : (t : Situation) (e : Ended) → IsEnd g s e → Turn g s t → ⊥
  end_stays t e (Returns is) (Calls n h args a are) = a.away is
  end_stays t e (Returns is) (Makes m a left step) = a.away is
  end_stays t e (Misses n h at a missing) (Calls m k args b are) =
      let host : h ≡ k = one_host n m h k a b in
      there_or_not s.machine.memory s.machine.regs.ebp k.arity at args are (subst (λ j. IsMissing s.machine.memory s.machine.regs.ebp j.arity at) host missing)
  end_stays t e (Misses n h at a missing) (Makes m b left step) = host_or_none n h a b
  end_stays t e (Leaves a out) (Calls n h args b are) = host_or_none n h b a
  end_stays t e (Leaves a out) (Makes m b left step) = not_makes m out step
  end_stays t e (Stops a inside all) (Calls n h args b are) = host_or_none n h b a
  end_stays t e (Stops a inside all) (Makes m b left step) = omega (arith, all, left)
  end_stays t e (Faults f a inside left step) (Calls n h args b are) = host_or_none n h b a
  end_stays t e (Faults f a inside left step) (Makes m b more other) = ok_or_err m f (step_only g.code s.machine (Ok m) (Err f) other step)

  -- and there is one end
  pub end_only : (e f : Ended) → IsEnd g s e → IsEnd g s f → e ≡ f
  end_only e f (Returns is) (Returns also) = refl
  end_only e f (Returns is) (Misses n h at a missing) = absurd (a.away is)
  end_only e f (Returns is) (Leaves a out) = absurd (a.away is)
  end_only e f (Returns is) (Stops a inside all) = absurd (a.away is)
  end_only e f (Returns is) (Faults x a inside left step) = absurd (a.away is)
  end_only e f (Misses n h at a missing) (Returns is) = absurd (a.away is)
  end_only e f (Misses n h at a missing) (Misses m k other b lacks) =
      let host : h ≡ k = one_host n m h k a b in
      ap (λ x. Stuck (Unmapped x) s.machine.eip) (one_missing s.machine.memory s.machine.regs.ebp k.arity at other
      (subst (λ j. IsMissing s.machine.memory s.machine.regs.ebp j.arity at) host missing) lacks)
  end_only e f (Misses n h at a missing) (Leaves b out) = absurd (host_or_none n h a b)
  end_only e f (Misses n h at a missing) (Stops b inside all) = absurd (host_or_none n h a b)
  end_only e f (Misses n h at a missing) (Faults x b inside left step) = absurd (host_or_none n h a b)
  end_only e f (Leaves a out) (Returns is) = absurd (a.away is)
  end_only e f (Leaves a out) (Misses n h at b missing) = absurd (host_or_none n h b a)
  end_only e f (Leaves a out) (Leaves b away) = refl
  end_only e f (Leaves a out) (Stops b inside all) = absurd (out inside)
  end_only e f (Leaves a out) (Faults x b inside left step) = absurd (out inside)
  end_only e f (Stops a inside all) (Returns is) = absurd (a.away is)
  end_only e f (Stops a inside all) (Misses n h at b missing) = absurd (host_or_none n h b a)
  end_only e f (Stops a inside all) (Leaves b out) = absurd (out inside)
  end_only e f (Stops a inside all) (Stops b within each) = refl
  end_only e f (Stops a inside all) (Faults x b within left step) = absurd (omega (arith, all, left))
  end_only e f (Faults x a inside left step) (Returns is) = absurd (a.away is)
  end_only e f (Faults x a inside left step) (Misses n h at b missing) = absurd (host_or_none n h b a)
  end_only e f (Faults x a inside left step) (Leaves b out) = absurd (out inside)
  end_only e f (Faults x a inside left step) (Stops b within all) = absurd (omega (arith, all, left))
  end_only e f (Faults x a inside left step) (Faults y b within more other) =
      ap (λ z. Stuck z s.machine.eip) (err_same x y (step_only g.code s.machine (Err x) (Err y) step other))

-- Runs

-- turns begin with a turn, if there are any
first : (g : Setting) (s u : Situation) → Turns g s u → (s ≡ u) ⊎ ((t : Situation) × Turn g s t × Turns g t u)
first g s u Stays = inl refl
first g s u (Goes t v turns turn) = elim (first g s t turns) [
  | inl e ↦ inr (u, subst (λ w. Turn g w u) (sym e) turn, Stays)
  | inr more ↦ inr (more.0, more.1, Goes t u more.2 turn)
]

-- what was reached lies on the way to the end
on_the_way : (g : Setting) (s t u : Situation) (e : Ended) → Turns g s t → IsEnd g t e → Turns g s u → Turns g u t
on_the_way g s t u e to end Stays = to
on_the_way g s t u e to end (Goes v w turns turn) = elim (first g v t (on_the_way g s t v e to end turns)) [
  | inl same ↦ absurd (end_stays g v u e (subst (λ x. IsEnd g x e) (sym same) end) turn)
  | inr more ↦ subst (λ x. Turns g x t) (turn_only g v more.0 u more.1 turn) more.2
]

same_end : (g : Setting) (s t u : Situation) (e f : Ended) → Turns g s t → IsEnd g t e → Turns g s u → IsEnd g u f → u ≡ t
same_end g s t u e f to end also other = elim (first g u t (on_the_way g s t u e to end also)) [
  | inl same ↦ same
  | inr more ↦ absurd (end_stays g u more.0 f other more.1)
]

-- the situation where a run ends, and how, follow from its start
pub one_run : (g : Setting) (s t u : Situation) (e f : Ended) → Turns g s t → IsEnd g t e → Turns g s u → IsEnd g u f → (u ≡ t) × (f ≡ e)
one_run g s t u e f to end also other =
    let same : u ≡ t = same_end g s t u e f to end also other in
    (same, end_only g t f e (subst (λ x. IsEnd g x f) same other) end)

-- where nothing is outside, no host has to hand control back
pub alone : (g : Setting) (s : Situation) → g.outside ≡ [] → ComesBack g s
alone g s none t turns away some = let never : IsSome {T = ℕ} None = subst (λ pairs. IsSome (host_at pairs t.machine.eip)) none some in absurd cc
