-- The states that a rule leaves are known again, have the same locals, and no smaller next number.
use Rattle.std.proofs.Common.{◌≡◌, ℕ, zero, suc, ◌+◌, ◌-◌, ◌<◌, ◌≤◌, nat_le, Bool, true, false, IsTrue, if◌then◌else◌, List, [], ◌∷◌, ◌++◌, map, length, take, drop, Option, Some, None, Ok, refl, sym, ◌∙◌, subst, arith}
use Rattle.std.specs.Prelude.{slice_get, bytes_eq}
use Rattle.std.proofs.lemmas.Bool.{and_parts, and_from}
use Rattle.std.proofs.Math.Seq.{take-nil, drop-nil}
use Rattle.bed_machine.proofs.WordLaws.{some_same}
use Rattle.bed_lang.specs.declared.word.Name.{Name}
use Rattle.bed_lang.specs.declared.word.Var.TheVariants as var
use Rattle.bed_lang.specs.declared.word.Word.{Word, Number, Add, Sub, Times}
use Rattle.bed_lang.specs.declared.word.Seq.{App}
use Rattle.bed_lang.specs.declared.logic.Arg.{Arg}
use Rattle.bed_lang.specs.declared.logic.Arg.TheVariants as arg
use Rattle.bed_lang.specs.declared.logic.Pure.{Pure}
use Rattle.bed_lang.specs.declared.logic.Pure.TheVariants as pure
use Rattle.bed_lang.specs.declared.logic.Atom.{Atom}
use Rattle.bed_lang.specs.declared.logic.Atom.TheVariants as atom
use Rattle.bed_lang.specs.declared.logic.Bind.{Bind}
use Rattle.bed_lang.specs.declared.logic.Assertion.{Assertion}
use Rattle.bed_lang.specs.declared.module.Predicate.{Predicate}
use Rattle.bed_lang.specs.declared.condition.Decls.{Decls}
use Rattle.bed_lang.specs.Lookups.{predicate_named}
use Rattle.bed_lang.specs.Prelude.{lseg}
use Rattle.bed_lang.specs.Instances.{Instance, terms_with}
use Rattle.bed_deriv.specs.declared.derivation.DArg.{DArg}
use Rattle.bed_deriv.specs.declared.derivation.Rule.{Rule}
use Rattle.bed_deriv.specs.declared.derivation.Rule.TheVariants as rule
use Rattle.bed_deriv.specs.declared.state.SymState.{SymState}
use Rattle.bed_deriv.specs.declared.state.Remainder.{Remainder}
use Rattle.bed_lang.specs.SameFacts.{negation}
use Rattle.bed_deriv.specs.Arguments.{numbered}
use Rattle.bed_deriv.specs.Checks.{Step, first_failure, left_states, remainder, with_fact}
use Rattle.bed_deriv.specs.Derives.{heap_rule}
use Rattle.bed_deriv.specs.Fresh.{every, known_word, known_seq, known_arg, known_pure, known_atom, known_local, known_value, known_assertion, unfresh_predicate, IsKnownState, AreUnfresh}
use Rattle.bed_deriv.specs.HeapRules.{without, taken, both_taken, with_atom, claim, case_split, never, params_with, with_args, declared, cases_opened, unfold_rule, value_args, fold_rule, Segment, segment_args, segment, joined_segment, append_rule, block_of, divide, merge, cell_of, byte_of, fresh_word, four_bytes, cell_to_bytes, four_chosen, bytes_to_cell, block_to_cell, cell_to_block, drop_block, Shape, CellToBytes, BytesToCell, BlockToCell, CellToBlock, DropBlock, shape_of, shape}
use Rattle.bed_deriv.specs.Matches.{atoms_left}
use Rattle.bed_lang.specs.declared.logic.Term.{Term}
use Rattle.bed_deriv.specs.Opening.{alone, replaced_term, fresh_values, facts_of, atoms_of, with_terms, opened, opened_anew}
use Rattle.bed_deriv.proofs.StartLaws.{below, binders-known}
use Rattle.bed_deriv.proofs.KnownLaws.{IsKnownInstance, alone-known, facts-opened, atoms-opened, known-Number, known-Var, known-Add, known-Sub, known-Times, known_seq-App, every-append}
use Rattle.bed_check_pure.proofs.CheckLaws.{roomy}
use Rattle.bed_check_pure.proofs.RuleLaws.{numbered_is}
use Rattle.bed_check_heap.proofs.FreshLaws.{every_taken}
use Rattle.bed_check_heap.proofs.KeepLaws.{Every, passed}
use Rattle.bed_check_heap.proofs.TakeLaws.{both_facts, AreNumbered, chosen_numbered}
use Rattle.bed_check_cond.specs.States.{Grown, AllGrown}
use Rattle.bed_check_cond.proofs.AnewLemmas.{facts-anew, atoms-anew}
use Rattle.bed_check_cond.proofs.DeclaredLaws.{found_passes}
use Rattle.bed_check_cond.proofs.KnownLaws.{word_given, fact_is_known, values_known, left_known}
use Rattle.bed_check_cond.proofs.MoreLaws.{more_word, facts_more, atoms_more, locals_more, values_more}

one : {A : Type 0} (f : A → Bool) (x : A) → IsTrue (f x) → IsTrue (every f (x ∷ []))
one f x k = and_from (f x) true k refl

-- ---- facts

module _ (s : SymState) (known : IsKnownState s) where
  pub fact_grown : (p : Pure) → IsTrue (known_pure s.next p) → Grown s (with_fact s p)
  fact_grown p k = record {
    locals = refl;
    next = omega arith;
    known = record { locals = known.locals; facts = every-append (known_pure s.next) s.facts (p ∷ []) known.facts (one (known_pure s.next) p k); atoms = known.atoms };
  }

  -- other atoms that are known, with no more fresh variables
  pub atoms_grown : (xs : List Atom) → IsTrue (every (known_atom s.next) xs) → Grown s (record s { atoms = xs })
  atoms_grown xs k = record { locals = refl; next = omega arith; known = record { locals = known.locals; facts = known.facts; atoms = k } }

  negation_known : (p q : Pure) → negation p ≡ Some q → IsTrue (known_pure s.next p) → IsTrue (known_pure s.next q)
  negation_known (pure.Equal a b) q e k = subst (λ z. IsTrue (known_pure s.next z)) (some_same e) k
  negation_known (pure.Unequal a b) q e k = subst (λ z. IsTrue (known_pure s.next z)) (some_same e) k
  negation_known (pure.Less a b) q e k = subst (λ z. IsTrue (known_pure s.next z)) (some_same e) (let h = and_parts (known_word s.next a) (known_word s.next b) k in and_from (known_word s.next b) (known_word s.next a) h.1 h.0)
  negation_known (pure.AtMost a b) q e k = subst (λ z. IsTrue (known_pure s.next z)) (some_same e) (let h = and_parts (known_word s.next a) (known_word s.next b) k in and_from (known_word s.next b) (known_word s.next a) h.1 h.0)
  negation_known (pure.Same a b) q e k = absurd cc
  negation_known (pure.Member a b) q e k = subst (λ z. IsTrue (known_pure s.next z)) (some_same e) k
  negation_known (pure.NonMember a b) q e k = subst (λ z. IsTrue (known_pure s.next z)) (some_same e) k
  negation_known (pure.Code a b) q e k = absurd cc

  abbrev By : Remainder → Type 0
  By m = AllGrown s m.states

  claim_grown : (args : List DArg) (n : ℕ) → Every By (claim s args n)
  claim_grown args n c p at = (fact_grown p (fact_is_known s.next (slice_get args 0) p at), tt)

  when_grown : (args : List DArg) (n : ℕ) → Every By (case_split s args n)
  when_grown args n c p at q e =
      let k = fact_is_known s.next (slice_get args 0) p at in
      (fact_grown p k, (fact_grown q (negation_known p q e k), tt))

  never_grown : (args : List DArg) (n : ℕ) → Every By (never args n)
  never_grown args n c = tt

-- ---- atoms that are taken

pub every_take : {A : Type 0} (f : A → Bool) (n : ℕ) (xs : List A) → IsTrue (every f xs) → IsTrue (every f (take n xs))
every_take f n [] k = rw take-nil refl
every_take f zero (x ∷ xs) k = refl
every_take f (suc n) (x ∷ xs) k = let q = and_parts (f x) (every f xs) k in and_from (f x) (every f (take n xs)) q.0 (every_take f n xs q.1)

pub every_drop : {A : Type 0} (f : A → Bool) (n : ℕ) (xs : List A) → IsTrue (every f xs) → IsTrue (every f (drop n xs))
every_drop f n [] k = rw drop-nil refl
every_drop f zero (x ∷ xs) k = k
every_drop f (suc n) (x ∷ xs) k = let q = and_parts (f x) (every f xs) k in every_drop f n xs q.1

pub every_without : {A : Type 0} (f : A → Bool) (n : ℕ) (xs : List A) → IsTrue (every f xs) → IsTrue (every f (without n xs))
every_without f n xs k = every-append f (take n xs) (drop (n + 1) xs) (every_take f n xs k) (every_drop f (n + 1) xs k)

pub every_at : (f : Atom → Bool) (s : SymState) (i : ℕ) (x : Atom) → numbered s.atoms i ≡ Some x → IsTrue (every f s.atoms) → IsTrue (f x)
every_at f s i x at k = (every_taken f s.atoms (i - 1) x (numbered_is s.atoms i x at).1 k).0

every_both : (f : Atom → Bool) (s : SymState) (i j : ℕ) → IsTrue (every f s.atoms) → IsTrue (every f (both_taken s i j).atoms)
every_both f s i j k = by (nat_le i j)
  where
    by : (b : Bool) → IsTrue (every f (if b then taken (taken s j) i else taken (taken s i) j).atoms)
    by true = every_without f (i - 1) (without (j - 1) s.atoms) (every_without f (j - 1) s.atoms k)
    by false = every_without f (j - 1) (without (i - 1) s.atoms) (every_without f (i - 1) s.atoms k)

both_same : (s : SymState) (i j : ℕ) → ((both_taken s i j).locals ≡ s.locals) × ((both_taken s i j).next ≡ s.next)
both_same s i j = by (nat_le i j)
  where
    by : (b : Bool) → ((if b then taken (taken s j) i else taken (taken s i) j).locals ≡ s.locals) × ((if b then taken (taken s j) i else taken (taken s i) j).next ≡ s.next)
    by true = (refl, refl)
    by false = (refl, refl)

-- ---- predicates

-- a state with further terms, and more fresh variables
terms_grown : (s : SymState) (known : IsKnownState s) (m : ℕ) → s.next ≤ m → (ts : List Term) → IsTrue (every (known_pure m) (facts_of ts))
    → IsTrue (every (known_atom m) (atoms_of ts)) → Grown s (with_terms (record s { next = m }) ts)
terms_grown s known m le ts facts atoms = record {
  locals = refl;
  next = le;
  known = record {
    locals = locals_more s.next m le s.locals known.locals;
    facts = every-append (known_pure m) s.facts (facts_of ts) (facts_more s.next m le s.facts known.facts) facts;
    atoms = every-append (known_atom m) s.atoms (atoms_of ts) (atoms_more s.next m le s.atoms known.atoms) atoms;
  };
}

-- a state with an opened assertion
pub opened_grown : (s : SymState) (known : IsKnownState s) (σ : List (Name × Arg) → Instance) (vs : List (Name × Arg)) (A : Assertion) → IsTrue (known_assertion 0 A)
    → IsKnownInstance (s.next + length A.binders) (σ (vs ++ fresh_values A.binders s.next)) → Grown s (opened σ vs A s)
opened_grown s known σ vs A unfresh given =
    let m = s.next + length A.binders in
    let τ = σ (vs ++ fresh_values A.binders s.next) in
    terms_grown s known m (omega arith) (terms_with τ A.terms) (facts-opened m τ given A.terms unfresh) (atoms-opened m τ given A.terms unfresh)

-- the same, with terms written anew
anew_grown : (s : SymState) (known : IsKnownState s) (σ : List (Name × Arg) → Instance) (vs : List (Name × Arg)) (A : Assertion) → IsTrue (known_assertion 0 A)
    → IsKnownInstance (s.next + length A.binders) (σ (vs ++ fresh_values A.binders s.next)) → Grown s (opened_anew σ vs A s)
anew_grown s known σ vs A unfresh given =
    let m = s.next + length A.binders in
    let τ = σ (vs ++ fresh_values A.binders s.next) in
    terms_grown s known m (omega arith) (map (replaced_term τ) A.terms) (facts-anew m τ given A.terms unfresh) (atoms-anew m τ given A.terms unfresh)

params_known : (next : ℕ) (bs : List Bind) (args : List Arg) → IsTrue (every (known_arg next) args) → IsTrue (every (known_value next) (params_with bs args))
params_known next [] args k = refl
params_known next (b ∷ bs) [] k = refl
params_known next (b ∷ bs) (a ∷ args) k =
    let q = and_parts (known_arg next a) (every (known_arg next) args) k in
    and_from (known_arg next a) (every (known_value next) (params_with bs args)) q.0 (params_known next bs args q.1)

args_known : (next : ℕ) (vs : List (Name × Arg)) → IsTrue (every (known_value next) vs) → IsTrue (every (known_arg next) (value_args vs))
args_known next [] k = refl
args_known next (v ∷ vs) k =
    let q = and_parts (known_value next v) (every (known_value next) vs) k in
    and_from (known_arg next v.1) (every (known_arg next) (value_args vs)) q.0 (args_known next vs q.1)

declared_known : (d : Decls) (unfresh : AreUnfresh d) (next : ℕ) (x : Atom) (p : Predicate × List Arg) → declared d x ≡ Some p → IsTrue (known_atom next x)
    → IsTrue (every (known_assertion 0) p.0.cases) × IsTrue (every (known_arg next) p.1)
declared_known d unfresh next (atom.Cell a v) p e k = absurd cc
declared_known d unfresh next (atom.Byte a v) p e k = absurd cc
declared_known d unfresh next (atom.Block a n) p e k = absurd cc
declared_known d unfresh next (atom.Pred x args) p e k = by (predicate_named d x.bytes) refl e
  where
    by : (o : Option Predicate) → predicate_named d x.bytes ≡ o → with_args o args ≡ Some p → IsTrue (every (known_assertion 0) p.0.cases) × IsTrue (every (known_arg next) p.1)
    by None is e = absurd cc
    by (Some q) is e =
        subst (λ (r : Predicate × List Arg). IsTrue (every (known_assertion 0) r.0.cases) × IsTrue (every (known_arg next) r.1)) (some_same e)
        (found_passes unfresh_predicate (λ r. bytes_eq r.name.bytes x.bytes) d.predicates q is unfresh.predicates, k)

module _ (d : Decls) (unfresh : AreUnfresh d) (s : SymState) (known : IsKnownState s) where
  abbrev Leaves : Remainder → Type 0
  Leaves m = AllGrown s m.states

  taken_known : (i : ℕ) → IsKnownState (taken s i)
  taken_known i = record { locals = known.locals; facts = known.facts; atoms = every_without (known_atom s.next) (i - 1) s.atoms known.atoms }

  cases_grown : (i : ℕ) (vs : List (Name × Arg)) (cases : List Assertion) → IsTrue (every (known_value s.next) vs) → IsTrue (every (known_assertion 0) cases) → AllGrown s (cases_opened (taken s i) vs cases)
  cases_grown i vs [] given k = tt
  cases_grown i vs (A ∷ cases) given k =
      let q = and_parts (known_assertion 0 A) (every (known_assertion 0) cases) k in
      let m = s.next + length A.binders in
      let le : s.next ≤ m = omega arith in
      let all : IsTrue (every (known_value m) (vs ++ fresh_values A.binders s.next)) =
      every-append (known_value m) vs (fresh_values A.binders s.next) (values_more s.next m le vs given) (binders-known A.binders s.next m (omega arith)) in
      let g = anew_grown (taken s i) (taken_known i) alone vs A q.0 (alone-known m (vs ++ fresh_values A.binders s.next) all) in
      (record { locals = g.locals; next = g.next; known = g.known }, cases_grown i vs cases given q.1)

  unfold_grown : (args : List DArg) (n : ℕ) → Every Leaves (unfold_rule d s args n)
  unfold_grown args n c i number x at p is size =
      let k = declared_known d unfresh s.next x p is (every_at (known_atom s.next) s i x at known.atoms) in
      cases_grown i (params_with p.0.params p.1) p.0.cases (params_known s.next p.0.params p.1 k.1) k.0

  atom_comes : (xs : List Atom) (y : Atom) → IsTrue (every (known_atom s.next) xs) → IsTrue (known_atom s.next y) → IsTrue (every (known_atom s.next) (xs ++ y ∷ []))
  atom_comes xs y k q = every-append (known_atom s.next) xs (y ∷ []) k (one (known_atom s.next) y q)

  fold_grown : (args : List DArg) (n : ℕ) → Every Leaves (fold_rule d s args n)
  fold_grown args n two p is A at size vs params bs binders cs chosen' different gs match = (
    atoms_grown s known (atoms_left cs 1 s.atoms ++ atom.Pred p.0 (value_args vs) ∷ [])
        (atom_comes (atoms_left cs 1 s.atoms) (atom.Pred p.0 (value_args vs)) (left_known (known_atom s.next) cs 1 s.atoms known.atoms)
        (args_known s.next vs (values_known s.next p.1.params _ vs params))),
    tt,
  )

  -- two atoms give way to one
  both_grown : (i j : ℕ) (y : Atom) → IsTrue (known_atom s.next y) → Grown s (with_atom (both_taken s i j) y)
  both_grown i j y k =
      let same = both_same s i j in
      record {
        locals = same.0;
        next = (let e = same.1 in omega arith);
        known = record {
          locals = subst (λ (m : ℕ). IsTrue (every (known_local m) (both_taken s i j).locals)) (sym same.1) (subst (λ (ls : List (Name × Word)). IsTrue (every (known_local s.next) ls)) (sym same.0) known.locals);
          facts = subst (λ (m : ℕ). IsTrue (every (known_pure m) (both_taken s i j).facts)) (sym same.1) (subst (λ (ps : List Pure). IsTrue (every (known_pure s.next) ps)) (sym (both_facts s i j)) known.facts);
          atoms = subst (λ (m : ℕ). IsTrue (every (known_atom m) ((both_taken s i j).atoms ++ y ∷ []))) (sym same.1) (atom_comes (both_taken s i j).atoms y (every_both (known_atom s.next) s i j known.atoms) k);
        };
      }

  segment_known : (x : Atom) (z : Segment) → segment x ≡ Some z → IsTrue (known_atom s.next x) → (IsTrue (known_word s.next z.start) × IsTrue (known_word s.next z.end)) × IsTrue (known_seq s.next z.elements)
  segment_known (atom.Cell a v) z e k = absurd cc
  segment_known (atom.Byte a v) z e k = absurd cc
  segment_known (atom.Block a n) z e k = absurd cc
  segment_known (atom.Pred x args) z e k = by (bytes_eq x.bytes lseg.name.bytes) e
    where
      parts : (args : List Arg) → segment_args x args ≡ Some z → IsTrue (every (known_arg s.next) args) → (IsTrue (known_word s.next z.start) × IsTrue (known_word s.next z.end)) × IsTrue (known_seq s.next z.elements)
      parts (arg.Word i a ∷ arg.Word j b ∷ arg.Seq l t ∷ []) e k =
          let q = and_parts (known_word s.next a) _ k in
          let r = and_parts (known_word s.next b) _ q.1 in
          let u = and_parts (known_seq s.next t) true r.1 in
          subst (λ (y : Segment). (IsTrue (known_word s.next y.start) × IsTrue (known_word s.next y.end)) × IsTrue (known_seq s.next y.elements)) (some_same e) ((q.0, r.0), u.0)
      parts _ e k = absurd cc

      by : (b : Bool) → (if b then segment_args x args else None) ≡ Some z → (IsTrue (known_word s.next z.start) × IsTrue (known_word s.next z.end)) × IsTrue (known_seq s.next z.elements)
      by true e = parts args e k
      by false e = absurd cc

  append_grown : (args : List DArg) (n : ℕ) → Every Leaves (append_rule d s args n)
  append_grown args n c i first a at_i j second b at_j apart has x is_x y is_y =
      let p = segment_known a x is_x (every_at (known_atom s.next) s i a at_i known.atoms) in
      let q = segment_known b y is_y (every_at (known_atom s.next) s j b at_j known.atoms) in
      let elements : IsTrue (known_seq s.next (App x.elements y.elements)) = known_seq-App s.next x.elements y.elements ∙ and_from (known_seq s.next x.elements) (known_seq s.next y.elements) p.1 q.1 in
      (both_grown i j (joined_segment x y) (and_from (known_word s.next x.start) _ p.0.0 (and_from (known_word s.next y.end) _ q.0.1 (and_from (known_seq s.next (App x.elements y.elements)) true elements refl))), tt)

  -- ---- blocks

  known_add : (a b : Word) → IsTrue (known_word s.next a) → IsTrue (known_word s.next b) → IsTrue (known_word s.next (Add a b))
  known_add a b k q = known-Add s.next a b ∙ and_from (known_word s.next a) (known_word s.next b) k q

  block_known : (x : Atom) (b : Word × Word) → block_of x ≡ Some b → IsTrue (known_atom s.next x) → IsTrue (known_word s.next b.0) × IsTrue (known_word s.next b.1)
  block_known (atom.Block a n) b e k = subst (λ (c : Word × Word). IsTrue (known_word s.next c.0) × IsTrue (known_word s.next c.1)) (some_same e) (and_parts (known_word s.next a) (known_word s.next n) k)
  block_known (atom.Cell a v) b e k = absurd cc
  block_known (atom.Byte a v) b e k = absurd cc
  block_known (atom.Pred x args) b e k = absurd cc

  pub cell_known : (x : Atom) (b : Word × Word) → cell_of x ≡ Some b → IsTrue (known_atom s.next x) → IsTrue (known_word s.next b.0) × IsTrue (known_word s.next b.1)
  cell_known (atom.Cell a n) b e k = subst (λ (c : Word × Word). IsTrue (known_word s.next c.0) × IsTrue (known_word s.next c.1)) (some_same e) (and_parts (known_word s.next a) (known_word s.next n) k)
  cell_known (atom.Block a v) b e k = absurd cc
  cell_known (atom.Byte a v) b e k = absurd cc
  cell_known (atom.Pred x args) b e k = absurd cc

  pub byte_known : (x : Atom) (b : Word × Word) → byte_of x ≡ Some b → IsTrue (known_atom s.next x) → IsTrue (known_word s.next b.0) × IsTrue (known_word s.next b.1)
  byte_known (atom.Byte a n) b e k = subst (λ (c : Word × Word). IsTrue (known_word s.next c.0) × IsTrue (known_word s.next c.1)) (some_same e) (and_parts (known_word s.next a) (known_word s.next n) k)
  byte_known (atom.Block a v) b e k = absurd cc
  byte_known (atom.Cell a v) b e k = absurd cc
  byte_known (atom.Pred x args) b e k = absurd cc

  divide_grown : (args : List DArg) (n : ℕ) → Every Leaves (divide s args n)
  divide_grown args n c i number x at m given b is =
      let q = block_known x b is (every_at (known_atom s.next) s i x at known.atoms) in
      let k = word_given s.next (slice_get args 1) m given in
      let rest = every_without (known_atom s.next) (i - 1) s.atoms known.atoms in
      let front : IsTrue (known_atom s.next (atom.Block b.0 m)) = and_from (known_word s.next b.0) (known_word s.next m) q.0 k in
      let place : IsTrue (known_word s.next (Add b.0 (Times 4 m))) = known_add b.0 (Times 4 m) q.0 (known-Times s.next 4 m ∙ k) in
      let fewer : IsTrue (known_word s.next (Sub b.1 m)) = known-Sub s.next b.1 m ∙ and_from (known_word s.next b.1) (known_word s.next m) q.1 k in
      let xs = without (i - 1) s.atoms ++ atom.Block b.0 m ∷ [] in
      let y = atom.Block (Add b.0 (Times 4 m)) (Sub b.1 m) in
      (atoms_grown s known (xs ++ y ∷ []) (atom_comes xs y (atom_comes (without (i - 1) s.atoms) (atom.Block b.0 m) rest front) (and_from (known_word s.next (Add b.0 (Times 4 m))) (known_word s.next (Sub b.1 m)) place fewer)), tt)

  merge_grown : (args : List DArg) (n : ℕ) → Every Leaves (merge s args n)
  merge_grown args n c i first x at_i j second y at_j apart b is_x e is_y =
      let p = block_known x b is_x (every_at (known_atom s.next) s i x at_i known.atoms) in
      let q = block_known y e is_y (every_at (known_atom s.next) s j y at_j known.atoms) in
      (both_grown i j (atom.Block b.0 (Add b.1 e.1)) (and_from (known_word s.next b.0) (known_word s.next (Add b.1 e.1)) p.0 (known_add b.1 e.1 p.1 q.1)), tt)

  -- ---- shapes

  -- more facts and other atoms, with so many more fresh variables
  grown_by : (k : ℕ) (fs : List Pure) (xs : List Atom) → IsTrue (every (known_pure (s.next + k)) fs) → IsTrue (every (known_atom (s.next + k)) xs)
      → Grown s (record { locals = s.locals; facts = fs; atoms = xs; next = s.next + k })
  grown_by k fs xs f x = record {
    locals = refl;
    next = omega arith;
    known = record { locals = locals_more s.next (s.next + k) (omega arith) s.locals known.locals; facts = f; atoms = x };
  }

  module _ (m : ℕ) where
    add_known : (a b : Word) → IsTrue (known_word m a) → IsTrue (known_word m b) → IsTrue (known_word m (Add a b))
    add_known a b k q = known-Add m a b ∙ and_from (known_word m a) (known_word m b) k q

    four_known : (a b c e : Word) → IsTrue (known_word m a) → IsTrue (known_word m b) → IsTrue (known_word m c) → IsTrue (known_word m e) → IsTrue (known_word m (four_bytes a b c e))
    four_known a b c e k1 k2 k3 k4 =
        add_known _ (Times 16777216 e) (add_known _ (Times 65536 c) (add_known a (Times 256 b) k1 (known-Times m 256 b ∙ k2)) (known-Times m 65536 c ∙ k3)) (known-Times m 16777216 e ∙ k4)

    is_fresh_known : (n : ℕ) → n < m → IsTrue (known_word m (fresh_word n))
    is_fresh_known n l = known-Var m (var.Fresh n) ∙ below n m l

    next_byte : (e : Word) (k : ℕ) (n : ℕ) → IsTrue (known_word m e) → n < m → IsTrue (known_atom m (atom.Byte (Add e (Number k)) (fresh_word n)))
    next_byte e k n q l = and_from (known_word m (Add e (Number k))) (known_word m (fresh_word n)) (add_known e (Number k) q (known-Number m k)) (is_fresh_known n l)

    one_more_atom : (xs : List Atom) (y : Atom) → IsTrue (every (known_atom m) xs) → IsTrue (known_atom m y) → IsTrue (every (known_atom m) (xs ++ y ∷ []))
    one_more_atom xs y k q = every-append (known_atom m) xs (y ∷ []) k (one (known_atom m) y q)

  cell_to_bytes_grown : (args : List DArg) (n : ℕ) → Every Leaves (cell_to_bytes s args n)
  cell_to_bytes_grown args n c i number x at b is =
      let m = s.next + 4 in
      let le : s.next ≤ m = omega arith in
      let q = cell_known x b is (every_at (known_atom s.next) s i x at known.atoms) in
      let e : IsTrue (known_word m b.0) = more_word s.next m le b.0 q.0 in
      let v : IsTrue (known_word m b.1) = more_word s.next m le b.1 q.1 in
      let f = s.next in
      let f0 = is_fresh_known m f (omega arith) in
      let f1 = is_fresh_known m (f + 1) (omega arith) in
      let f2 = is_fresh_known m (f + 2) (omega arith) in
      let f3 = is_fresh_known m (f + 3) (omega arith) in
      let rest = atoms_more s.next m le (without (i - 1) s.atoms) (every_without (known_atom s.next) (i - 1) s.atoms known.atoms) in
      let xs0 = without (i - 1) s.atoms in
      let xs1 = xs0 ++ atom.Byte b.0 (fresh_word f) ∷ [] in
      let xs2 = xs1 ++ atom.Byte (Add b.0 (Number 1)) (fresh_word (f + 1)) ∷ [] in
      let xs3 = xs2 ++ atom.Byte (Add b.0 (Number 2)) (fresh_word (f + 2)) ∷ [] in
      let y3 = atom.Byte (Add b.0 (Number 3)) (fresh_word (f + 3)) in
      let k1 : IsTrue (every (known_atom m) xs1) = one_more_atom m xs0 (atom.Byte b.0 (fresh_word f)) rest (and_from (known_word m b.0) (known_word m (fresh_word f)) e f0) in
      let k2 : IsTrue (every (known_atom m) xs2) = one_more_atom m xs1 (atom.Byte (Add b.0 (Number 1)) (fresh_word (f + 1))) k1 (next_byte m b.0 1 (f + 1) e (omega arith)) in
      let k3 : IsTrue (every (known_atom m) xs3) = one_more_atom m xs2 (atom.Byte (Add b.0 (Number 2)) (fresh_word (f + 2))) k2 (next_byte m b.0 2 (f + 2) e (omega arith)) in
      let all : IsTrue (every (known_atom m) (xs3 ++ y3 ∷ [])) = one_more_atom m xs3 y3 k3 (next_byte m b.0 3 (f + 3) e (omega arith)) in
      let sum = four_known m (fresh_word f) (fresh_word (f + 1)) (fresh_word (f + 2)) (fresh_word (f + 3)) f0 f1 f2 f3 in
      let p : Pure = pure.Equal b.1 (four_bytes (fresh_word f) (fresh_word (f + 1)) (fresh_word (f + 2)) (fresh_word (f + 3))) in
      let fact : IsTrue (known_pure m p) = and_from (known_word m b.1) (known_word m (four_bytes (fresh_word f) (fresh_word (f + 1)) (fresh_word (f + 2)) (fresh_word (f + 3)))) v sum in
      (grown_by 4 (s.facts ++ p ∷ []) (xs3 ++ y3 ∷ []) (every-append (known_pure m) s.facts (p ∷ []) (facts_more s.next m le s.facts known.facts) (one (known_pure m) p fact)) all, tt)

  four_grown : (cs : List (ℕ × Atom)) → AreNumbered s.atoms cs → Every Leaves (four_chosen s cs)
  four_grown [] numbers = tt
  four_grown (i ∷ []) numbers = tt
  four_grown (i ∷ j ∷ []) numbers = tt
  four_grown (i ∷ j ∷ k ∷ []) numbers = tt
  four_grown (i ∷ j ∷ k ∷ l ∷ []) numbers = λ a is_a b is_b c is_c e is_e.
      let qa = byte_known i.1 a is_a (every_at (known_atom s.next) s i.0 i.1 numbers.0 known.atoms) in
      let qb = byte_known j.1 b is_b (every_at (known_atom s.next) s j.0 j.1 numbers.1.0 known.atoms) in
      let qc = byte_known k.1 c is_c (every_at (known_atom s.next) s k.0 k.1 numbers.1.1.0 known.atoms) in
      let qe = byte_known l.1 e is_e (every_at (known_atom s.next) s l.0 l.1 numbers.1.1.1.0 known.atoms) in
      let sum = four_known s.next a.1 b.1 c.1 e.1 qa.1 qb.1 qc.1 qe.1 in
      let xs = atoms_left (i ∷ j ∷ k ∷ l ∷ []) 1 s.atoms in
      let y = atom.Cell a.0 (four_bytes a.1 b.1 c.1 e.1) in (
        atoms_grown s known (xs ++ y ∷ []) (atom_comes xs y (left_known (known_atom s.next) (i ∷ j ∷ k ∷ l ∷ []) 1 s.atoms known.atoms)
            (and_from (known_word s.next a.0) (known_word s.next (four_bytes a.1 b.1 c.1 e.1)) qa.0 sum)),
        tt,
      )
  four_grown (i ∷ j ∷ k ∷ l ∷ x ∷ more) numbers = tt

  bytes_to_cell_grown : (args : List DArg) (n : ℕ) → Every Leaves (bytes_to_cell s args n)
  bytes_to_cell_grown args n c cs at different = four_grown cs (chosen_numbered s.atoms (drop 1 args) cs at)

  block_to_cell_grown : (args : List DArg) (n : ℕ) → Every Leaves (block_to_cell s args n)
  block_to_cell_grown args n c i number x at b is =
      let m = s.next + 1 in
      let le : s.next ≤ m = omega arith in
      let q = block_known x b is (every_at (known_atom s.next) s i x at known.atoms) in
      let rest = atoms_more s.next m le (without (i - 1) s.atoms) (every_without (known_atom s.next) (i - 1) s.atoms known.atoms) in
      let xs = without (i - 1) s.atoms in (
        grown_by 1 s.facts (xs ++ atom.Cell b.0 (fresh_word s.next) ∷ []) (facts_more s.next m le s.facts known.facts)
            (one_more_atom m xs (atom.Cell b.0 (fresh_word s.next)) rest (and_from (known_word m b.0) (known_word m (fresh_word s.next)) (more_word s.next m le b.0 q.0) (is_fresh_known m s.next (omega arith)))),
        tt,
      )

  cell_to_block_grown : (args : List DArg) (n : ℕ) → Every Leaves (cell_to_block s args n)
  cell_to_block_grown args n c i number x at b is =
      let q = cell_known x b is (every_at (known_atom s.next) s i x at known.atoms) in
      let xs = without (i - 1) s.atoms in (
        atoms_grown s known (xs ++ atom.Block b.0 (Number 1) ∷ []) (atom_comes xs (atom.Block b.0 (Number 1)) (every_without (known_atom s.next) (i - 1) s.atoms known.atoms)
            (and_from (known_word s.next b.0) (known_word s.next (Number 1)) q.0 (known-Number s.next 1))),
        tt,
      )

  drop_block_grown : (args : List DArg) (n : ℕ) → Every Leaves (drop_block s args n)
  drop_block_grown args n c i number x at b is = (atoms_grown s known (without (i - 1) s.atoms) (every_without (known_atom s.next) (i - 1) s.atoms known.atoms), tt)

  shape_grown : (args : List DArg) (n : ℕ) → Every Leaves (shape s args n)
  shape_grown args n c form at = by form
    where
      by : (form : Shape) → Every Leaves (shape_of form s args n)
      by CellToBytes = cell_to_bytes_grown args n
      by BytesToCell = bytes_to_cell_grown args n
      by BlockToCell = block_to_cell_grown args n
      by CellToBlock = cell_to_block_grown args n
      by DropBlock = drop_block_grown args n

  of_step : (c : Step) → Every Leaves c → (m : Remainder) → remainder c ≡ Ok m → AllGrown s m.states
  of_step c all m e = passed Leaves c all m (roomy left_states (first_failure c) m e)

  -- the states that a rule leaves
  pub rule_grown : (r : Rule) (args : List DArg) (n : ℕ) (m : Remainder) → remainder (heap_rule d r s args n) ≡ Ok m → AllGrown s m.states
  rule_grown rule.Claim args n m e = of_step (claim s args n) (claim_grown s known args n) m e
  rule_grown rule.When args n m e = of_step (case_split s args n) (when_grown s known args n) m e
  rule_grown rule.Never args n m e = of_step (never args n) (never_grown s known args n) m e
  rule_grown rule.Unfold args n m e = of_step (unfold_rule d s args n) (unfold_grown args n) m e
  rule_grown rule.Fold args n m e = of_step (fold_rule d s args n) (fold_grown args n) m e
  rule_grown rule.Append args n m e = of_step (append_rule d s args n) (append_grown args n) m e
  rule_grown rule.Divide args n m e = of_step (divide s args n) (divide_grown args n) m e
  rule_grown rule.Merge args n m e = of_step (merge s args n) (merge_grown args n) m e
  rule_grown rule.Shape args n m e = of_step (shape s args n) (shape_grown args n) m e
  rule_grown _ args n m e = absurd cc
