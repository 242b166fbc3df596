-- Where a condition starts, the state that it opens holds, and the path reads its locals.
use Rattle.std.proofs.Common.{◌≡◌, ℕ, zero, suc, ◌+◌, ◌-◌, ◌≤◌, Bool, true, false, IsTrue, if◌then◌else◌, List, [], ◌∷◌, ◌++◌, length, take, refl, sym, ◌∙◌, ap, arith}
use Rattle.std.specs.Prelude.{Contains}
use Rattle.std.proofs.lemmas.Bool.{and_parts}
use Rattle.bed_machine.specs.Memory.{Memory, empty}
use Rattle.bed_lang.specs.declared.word.Name.{Name}
use Rattle.bed_lang.specs.declared.word.Var.TheVariants as var
use Rattle.bed_lang.specs.declared.logic.Arg.{Arg}
use Rattle.bed_lang.specs.declared.condition.Cond.{Cond}
use Rattle.bed_lang.specs.Keys.{bare_name}
use Rattle.bed_lang.specs.Lookups.{function_signature, count_of_params}
use Rattle.bed_lang.specs.Numbers.{wrap}
use Rattle.bed_lang.specs.Values.{Values, Named, Old, Fresh, set_word}
use Rattle.bed_lang.specs.Instances.{values_with}
use Rattle.bed_lang.proofs.ValueLaws.{value-Var}
use Rattle.bed_sat.specs.Assertions.{World, meaning}
use Rattle.bed_sat.specs.Valid.{Starts}
use Rattle.bed_sat.proofs.PartLaws.{joins_comm, to_empty}
use Rattle.bed_deriv.specs.declared.state.SymState.{SymState}
use Rattle.bed_deriv.specs.Fresh.{unfresh_condition, unfresh_goal, known_assertion}
use Rattle.bed_deriv.specs.Opening.{local_values, fresh_values, first_locals, arguments_of, replacing, started}
use Rattle.bed_deriv.specs.Opening as opening
use Rattle.bed_deriv.proofs.StartLaws.{locals-known}
use Rattle.bed_check_pure.specs.States.{StateHolds}
use Rattle.bed_check_heap.specs.Sound.{AgreeBelow}
use Rattle.bed_check_heap.proofs.FreshLaws.{agree_self, agree_more, set_here}
use Rattle.bed_check_heap.proofs.OpenLaws.{set_args}
use Rattle.bed_check_cond.specs.Paths.{AreRead, ReadsLocals}
use Rattle.bed_check_cond.proofs.ValueLaws.{SameButFresh, no_fresh}
use Rattle.bed_check_cond.proofs.ReadLaws.{reads_known}
use Rattle.bed_check_cond.proofs.OpeningLaws.{assertion_opens, state_opened}
use Rattle.bed_check_cond.proofs.EndLaws.{with_locals}

-- ---- fresh variables with the locals' words

-- the fresh variables of the locals but the first k, from a number on, have the words of the locals
abbrev with_fresh : Values → Values → List Name → ℕ → ℕ → Values
with_fresh μ ν [] k n = ν
with_fresh μ ν (x ∷ xs) (suc k) n = with_fresh μ ν xs k n
with_fresh μ ν (x ∷ xs) zero n = with_fresh μ (set_word ν (Fresh n) (μ.words (Named x.bytes))) xs zero (n + 1)

fresh_agrees : (next : ℕ) (μ ν κ : Values) (xs : List Name) (k n : ℕ) → next ≤ n → AgreeBelow next ν κ → AgreeBelow next ν (with_fresh μ κ xs k n)
fresh_agrees next μ ν κ [] k n le g = g
fresh_agrees next μ ν κ (x ∷ xs) (suc k) n le g = fresh_agrees next μ ν κ xs k n le g
fresh_agrees next μ ν κ (x ∷ xs) zero n le g =
    fresh_agrees next μ ν (set_word κ (Fresh n) (μ.words (Named x.bytes))) xs zero (n + 1) (omega arith) (agree_more next n (μ.words (Named x.bytes)) ν κ le g)

module _ (labels : List ℕ → ℕ) (μ : Values) where
  -- locals are read so, where arguments are as they were at entry
  starts_read : (xs : List Name) (k n : ℕ) (ν : Values) → AgreeBelow 0 μ ν
      → ((x : Name) → Contains (take k xs) x → wrap (μ.words (Named x.bytes)) ≡ wrap (μ.words (Old x.bytes)))
      → AreRead labels (first_locals xs k n) (with_fresh μ ν xs k n) μ
  starts_read [] k n ν g entry = tt
  starts_read (x ∷ xs) (suc k) n ν g entry =
      let κ = with_fresh μ ν xs k n in
      let all = fresh_agrees 0 μ μ ν xs k n (omega arith) g in
      let old : κ.words (Old x.bytes) ≡ μ.words (Old x.bytes) = all.words (Old x.bytes) (λ m e. absurd cc) in (
        entry x (0, omega arith, refl) ∙ ap wrap (sym old) ∙ sym (value-Var labels κ (var.Old (bare_name x))),
        starts_read xs k n ν g (λ y c. entry y (suc c.0, (let l = c.1 in omega arith), c.2)),
      )
  starts_read (x ∷ xs) zero n ν g entry =
      let v = μ.words (Named x.bytes) in
      let ν' = set_word ν (Fresh n) v in
      let κ = with_fresh μ ν' xs zero (n + 1) in
      let later = fresh_agrees (n + 1) μ ν' ν' xs zero (n + 1) (omega arith) (agree_self (n + 1) ν') in
      let has : κ.words (Fresh n) ≡ v = later.words (Fresh n) (λ m e. let z : n ≡ m = cc in omega arith) ∙ set_here ν n v in (
        ap wrap (sym has) ∙ sym (value-Var labels κ (var.Fresh n)),
        starts_read xs zero (n + 1) ν' (agree_more 0 n v μ ν (omega arith) g) (λ y c. absurd (let l = c.1 in omega arith)),
      )

  starts_with : (xs : List Name) (k : ℕ) → ((x : Name) → Contains (take k xs) x → wrap (μ.words (Named x.bytes)) ≡ wrap (μ.words (Old x.bytes)))
      → ReadsLocals labels (first_locals xs k 0) (with_fresh μ μ xs k 0) μ
  starts_with xs k entry =
      let g = fresh_agrees 0 μ μ μ xs k 0 (omega arith) (agree_self 0 μ) in
      record {
        locals = starts_read xs k 0 μ (agree_self 0 μ) entry;
        others = λ y f out. sym (g.words y (λ n e. no_fresh y n f e));
        lists = λ y f. sym (g.lists y (λ n e. no_fresh y n f e));
      }

-- ---- the state

-- the state holds, and the path's values read its locals
pub record Opened (w : World) (c : Cond) (μ : Values) (h : Memory) : Type 0 where
  pub values : Values
  pub holds : StateHolds w values h (started c w.decls)
  pub reads : ReadsLocals w.labels (started c w.decls).locals values μ

pub condition_opens : (w : World) (c : Cond) (μ : Values) (h : Memory) → IsTrue (unfresh_condition c) → Starts w (function_signature w.decls c.function) c μ h → Opened w c μ h
condition_opens w c μ h unfresh starts =
    let k = arguments_of c w.decls in
    let next = length c.locals - k in
    let ls = first_locals c.locals k 0 in
    let ν = with_fresh μ μ c.locals k 0 in
    let reads = starts_with w.labels μ c.locals k entry in
    let known = locals-known c.locals k 0 next (omega arith) in
    let start_known = (and_parts (known_assertion 0 c.start) (unfresh_goal c.goal) unfresh).0 in
    let alone : SymState = opening.with_locals ls next in
    let stands : (κ : Values) (us : List (Name × Arg)) → AgreeBelow next ν κ → SameButFresh (set_args w.labels κ μ us) (values_with (replacing (local_values ls ++ us)) w.labels κ) =
    λ κ us g. with_locals w κ μ h alone (reads_known w next ν κ μ g ls known reads) 0 [] us in
    let o = assertion_opens w ν (meaning w starts.holds.0) next h replacing (local_values ls) c.start μ start_known stands starts.holds.1 in
    let before : StateHolds w o.values empty (record alone { next = next + length c.start.binders }) = record { facts = tt; depth = 0; atoms = refl } in
    record {
      values = o.values;
      holds = state_opened w o.values (record alone { next = next + length c.start.binders }) _ starts.holds.0 h empty h (joins_comm (to_empty h)) before o.terms;
      reads = reads_known w next ν o.values μ o.agree ls known reads;
    }
  where
    by : (e : Bool) → c.entry ≡ e → (x : Name) → Contains (take (if e then count_of_params (function_signature w.decls c.function) else 0) c.locals) x
        → wrap (μ.words (Named x.bytes)) ≡ wrap (μ.words (Old x.bytes))
    by true is x given = starts.entry is x given
    by false is x given = absurd (let l = given.1 in omega arith)

    entry : (x : Name) → Contains (take (arguments_of c w.decls) c.locals) x → wrap (μ.words (Named x.bytes)) ≡ wrap (μ.words (Old x.bytes))
    entry = by c.entry refl
