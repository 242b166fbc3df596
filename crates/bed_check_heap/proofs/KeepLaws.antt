-- Rules for the rest of a condition keep what holds: facts, and blocks. Where all premises of a rule hold it has as many children as it
-- leaves goals and states, and where the state holds and the goals are true, some state that it leaves holds.
use Rattle.std.proofs.Common.{◌≡◌, ℕ, ◌+◌, ◌-◌, ◌*◌, ◌≤◌, true, false, List, [], ◌∷◌, length, Some, None, Ok, inl, inr, refl, sym, ◌∙◌, subst, subst₂, arith}
use Rattle.bed_machine.specs.Memory.{Memory}
use Rattle.bed_machine.proofs.WordLaws.{some_same}
use Rattle.bed_lang.specs.declared.word.Word.{Word, Add, Sub, Times}
use Rattle.bed_lang.specs.declared.logic.Pure.{Pure}
use Rattle.bed_lang.specs.declared.logic.Atom.{Atom}
use Rattle.bed_lang.specs.declared.logic.Atom.TheVariants as atom
use Rattle.bed_lang.specs.Numbers.{wrap}
use Rattle.bed_lang.specs.Values.{Values, value}
use Rattle.bed_lang.proofs.ValueLaws.{value-Number, value-Add, value-Sub, value-Times, value-small}
use Rattle.bed_sat.specs.Cells.{IsBlock}
use Rattle.bed_sat.specs.Facts.{IsTrueFact}
use Rattle.bed_sat.specs.Assertions.{Meaning, IsTrueAtom, World, meaning}
use Rattle.bed_sat.proofs.PartLaws.{joins_comm, joins_assoc}
use Rattle.bed_sat.proofs.BlockLaws.{block_small}
use Rattle.bed_deriv.specs.declared.derivation.DArg.{DArg}
use Rattle.bed_deriv.specs.declared.state.SymState.{SymState}
use Rattle.bed_deriv.specs.declared.state.Remainder.{Remainder}
use Rattle.bed_deriv.specs.Fresh.{IsKnownState}
use Rattle.bed_deriv.specs.Checks.{Check, Needs, Given, Fails, Leaves, Step, first_failure, left_states, remainder, with_fact}
use Rattle.bed_deriv.specs.HeapRules.{claim, case_split, never, block_of, divide, merge}
use Rattle.bed_check_pure.specs.States.{AreTrueFacts, StateHolds}
use Rattle.bed_check_pure.proofs.SameLaws.{not_equal, one_true}
use Rattle.bed_check_pure.proofs.CheckLaws.{roomy}
use Rattle.bed_check_pure.proofs.RuleLaws.{counted, holds_with}
use Rattle.bed_check_heap.specs.Sound.{SomeHolds}
use Rattle.bed_check_heap.proofs.TakeLaws.{both_facts, put_atom, take_numbered, take_both}
use Rattle.bed_check_heap.proofs.FreshLaws.{agree_self}
use Rattle.bed_check_heap.proofs.MemoryLaws.{block_divides, blocks_merge}

-- ---- checks

-- where all premises of a check hold, P is true of what it leaves
abbrev pub Every : {A : Type 0} → (A → Type 0) → Check A → Type 0
Every P (Needs premise test c) = test ≡ true → Every P c
Every P (Given premise found c) = (x : _) → found ≡ Some x → Every P (c x)
Every P (Fails premise) = Unit {0}
Every P (Leaves x) = P x

pub passed : {A : Type 0} (P : A → Type 0) (c : Check A) → Every P c → (x : A) → first_failure c ≡ Ok x → P x
passed P (Needs premise true c) is x e = passed P c (is refl) x e
passed P (Needs premise false c) is x e = absurd cc
passed P (Given premise None c) is x e = absurd cc
passed P (Given premise (Some y) c) is x e = passed P (c y) (is y refl) x e
passed P (Fails premise) is x e = absurd cc
passed P (Leaves y) is x e = let same : y ≡ x = cc in subst P same is

module _ (w : World) (ν : Values) (h : Memory) where
  -- as many children as goals and states; where the state holds and the goals are true, some state that is left holds
  abbrev pub Keeps : SymState → ℕ → Remainder → Type 0
  Keeps s n m =
      (length m.goals + length m.states ≡ n)
      × (IsKnownState s → StateHolds w ν h s → AreTrueFacts w ν m.goals → SomeHolds w s.next ν h m.states)

  pub kept : (s : SymState) (n : ℕ) (c : Step) → Every (Keeps s n) c → (m : Remainder) → remainder c ≡ Ok m → Keeps s n m
  kept s n c is m e = passed (Keeps s n) c is m (roomy left_states (first_failure c) m e)

  -- a state that holds under the same values
  pub same_values : (next : ℕ) (s : SymState) (more : List SymState) → StateHolds w ν h s → SomeHolds w next ν h (s ∷ more)
  same_values next s more holds = inl (ν, agree_self next ν, holds)

-- ---- one lemma a rule

module _ (w : World) (ν : Values) (h : Memory) (s : SymState) where
  abbrev V : Word → ℕ
  V = value w.labels ν

  abbrev Is : Pure → Type 0
  Is = IsTrueFact w.codes w.labels ν

  pub claim_keeps : (args : List DArg) (n : ℕ) → Every (Keeps w ν h s n) (claim s args n)
  claim_keeps args n c p at = (
    counted args 1 n 2 c,
    λ known holds goals. same_values w ν h s.next (with_fact s p) [] (holds_with w ν h s p holds goals.0),
  )

  pub when_keeps : (args : List DArg) (n : ℕ) → Every (Keeps w ν h s n) (case_split s args n)
  when_keeps args n c p at q e = (
    counted args 1 n 2 c,
    λ known holds goals. elim (one_true w.codes w.labels ν p q e) [
      | inl t ↦ same_values w ν h s.next (with_fact s p) (with_fact s q ∷ []) (holds_with w ν h s p holds t)
      | inr t ↦ inr (same_values w ν h s.next (with_fact s q) [] (holds_with w ν h s q holds t))
    ],
  )

  pub never_keeps : (args : List DArg) (n : ℕ) → Every (Keeps w ν h s n) (never args n)
  never_keeps args n c = (
    counted args 0 n 1 c,
    λ known holds goals. let e = sym (value-Number w.labels ν 1) ∙ goals.0 ∙ value-Number w.labels ν 0 in absurd (omega arith),
  )

  -- ---- blocks

  pub block_is : (P : Meaning) (x : Atom) (b : Word × Word) (m : Memory) → block_of x ≡ Some b → IsTrueAtom w.codes w.labels P ν x m → IsBlock (V b.0) (V b.1) m
  block_is P (atom.Block e k) b m at is = subst (λ (c : Word × Word). IsBlock (V c.0) (V c.1) m) (some_same at) is
  block_is P (atom.Cell e v) b m at is = absurd cc
  block_is P (atom.Byte e v) b m at is = absurd cc
  block_is P (atom.Pred name args) b m at is = absurd cc

  after_words : (e k : Word) → V (Add e (Times 4 k)) ≡ wrap (V e + 4 * V k)
  after_words e k = value-Add w.labels ν e (Times 4 k) ∙ (let t = value-Times w.labels ν 4 k in omega (arith, t))

  fewer_words : (k m : Word) → V m ≤ V k → V (Sub k m) ≡ V k - V m
  fewer_words k m le = value-Sub w.labels ν k m ∙ (let a = value-small w.labels ν k in omega arith)

  pub divide_keeps : (args : List DArg) (n : ℕ) → Every (Keeps w ν h s n) (divide s args n)
  divide_keeps args n c i number x at m given b is = (
    counted args 2 n 2 c,
    λ known holds goals.
        let P = meaning w holds.depth in
        let t = take_numbered w ν P s i x h at holds.atoms in
        let (front, back, j, one, two) = block_divides (V b.0) (V b.1) (V m) t.here (value-small w.labels ν b.0) goals.0 (block_is P x b t.here is t.is) in
        let k = joins_assoc (joins_comm t.joins) j in
        inl (
          ν,
          agree_self s.next ν,
          record {
            facts = holds.facts;
            depth = holds.depth;
            atoms = put_atom w ν P _ _ h k.0 back k.1 (put_atom w ν P _ _ k.0 t.rest front k.2 t.are one)
                (subst₂ (λ a l. IsBlock a l back) (sym (after_words b.0 m)) (sym (fewer_words b.1 m goals.0)) two);
          },
        ),
  )

  pub merge_keeps : (args : List DArg) (n : ℕ) → Every (Keeps w ν h s n) (merge s args n)
  merge_keeps args n c i first x at_i j second y at_j apart b is_x d is_y = (
    counted args 2 n 2 c,
    λ known holds goals.
        let P = meaning w holds.depth in
        let t = take_both w ν P s i j x y h (not_equal i j apart) at_i at_j holds.atoms in
        let one = block_is P x b t.first is_x t.is_first in
        let two = block_is P y d t.second is_y t.is_second in
        let small = block_small _ _ t.first one in
        let few = block_small _ _ t.second two in
        let size : V (Add b.1 d.1) ≡ V b.1 + V d.1 = value-Add w.labels ν b.1 d.1 ∙ omega arith in
        let place : V d.0 ≡ wrap (V b.0 + 4 * V b.1) = goals.0 ∙ after_words b.0 b.1 in
        let all = blocks_merge (V b.0) (V b.1) (V d.1) t.both t.first t.second (value-small w.labels ν b.0) t.parts one (subst (λ a. IsBlock a (V d.1) t.second) place two) in
        inl (
          ν,
          agree_self s.next ν,
          record {
            facts = subst (AreTrueFacts w ν) (sym (both_facts s i j)) holds.facts;
            depth = holds.depth;
            atoms = put_atom w ν P _ _ h t.rest t.both t.joins t.are (subst (λ l. IsBlock (V b.0) l t.both) (sym size) all);
          },
        ),
  )
