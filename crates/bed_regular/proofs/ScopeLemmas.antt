-- An assertion without a fault speaks of what is in scope alone, once its arguments are resolved.
use Rattle.std.proofs.Common.{◌≡◌, ℕ, ◌+◌, Bool, true, false, not, ◌||◌, ◌⊎◌, inl, inr, Option, Some, None, List, [], ◌∷◌, ◌++◌, map, bytes_eq, refl, sym, ◌∙◌, ap, subst, append_assoc, append-nil}
use Rattle.std.specs.Prelude.{◌&&◌, if◌then◌else◌, unwrap_or}
use Rattle.bed_lang.specs.declared.word.Name.{Name}
use Rattle.bed_lang.specs.declared.word.Sort.{Sort}
use Rattle.bed_lang.specs.declared.word.Sort.TheVariants as sort
use Rattle.bed_lang.specs.declared.word.Var.{Var}
use Rattle.bed_lang.specs.declared.word.Var.TheVariants as var
use Rattle.bed_lang.specs.declared.word.Word.{Word, Var as WordVar, roll-Word, map-Word, ind-Word, fold-roll-Word}
use Rattle.bed_lang.specs.declared.word.Word.TheOpen.{Word-F}
use Rattle.bed_lang.specs.declared.word.Word.TheVariants.{rolls-Var}
use Rattle.bed_lang.specs.declared.word.Seq.{Seq, Var as SeqVar, roll-Seq, map-Seq, ind-Seq, fold-roll-Seq}
use Rattle.bed_lang.specs.declared.word.Seq.TheOpen.{Seq-F}
use Rattle.bed_lang.specs.declared.word.Seq.TheVariants.{rolls-Var as seq_rolls-Var}
use Rattle.bed_lang.specs.declared.logic.Arg.{Arg}
use Rattle.bed_lang.specs.declared.logic.Arg.TheVariants as arg
use Rattle.bed_lang.specs.declared.logic.Pure.{Pure}
use Rattle.bed_lang.specs.declared.logic.Pure.TheVariants as pure
use Rattle.bed_lang.specs.declared.logic.Atom.{Atom}
use Rattle.bed_lang.specs.declared.logic.Atom.TheVariants as atom
use Rattle.bed_lang.specs.declared.logic.Term.{Term}
use Rattle.bed_lang.specs.declared.logic.Term.TheVariants as term
use Rattle.bed_lang.specs.declared.logic.Bind.{Bind}
use Rattle.bed_lang.specs.declared.logic.Assertion.{Assertion}
use Rattle.bed_lang.specs.Same.{same_sort}
use Rattle.bed_lang.specs.Values.{Variable, Named, Old, Answer, Fresh, Hole, variable, same_variable}
use Rattle.bed_lang.specs.Lookups.{predicate_named}
use Rattle.bed_sat.specs.Scopes.{Scope, with_bind, word_in, word_in_step, seq_in, seq_in_step, arg_in, args_in, pure_in, atom_in, term_in, terms_in, bound_in, assertion_in}
use Rattle.bed_names.specs.declared.error.NameError.{NameError}
use Rattle.bed_names.specs.declared.error.NameError.TheVariants.{Unknown}
use Rattle.bed_names.specs.Names.{is_among, sort_of}
use Rattle.bed_names.specs.Terms.{Visible, with_names, is_hole, found_faults, sort_faults, word_faults_if, name_faults, variable_faults, word_step, word_faults, seq_step, seq_faults, arg_faults, args_faults, applied_faults, pure_faults, atom_faults, term_faults, terms_faults, asked_by, first_sort, behind_first, twice_faults, bind_names, assertion_faults, predicate_name_faults, has_other_number}
use Rattle.bed_names.specs.Arguments.{changed_args, changed_applied, changed_atom, changed_term, changed_assertion}
use Rattle.bed_names.specs.Resolved.{resolved_arg, bare_sort, bare_variable, variable_arg}
use Rattle.bed_regular.proofs.StatementLemmas.{no_front, no_back}

not_true : false ≡ true → ⊥
not_true e = cc

both_true : (a b : Bool) → a ≡ true → b ≡ true → (a && b) ≡ true
both_true true b e f = f
both_true false b e f = absurd (not_true e)

or_left : (a b : Bool) → a ≡ true → (a || b) ≡ true
or_left true b e = refl
or_left false b e = absurd (not_true e)

or_right : (a b : Bool) → b ≡ true → (a || b) ≡ true
or_right true b e = refl
or_right false b e = e

-- What is in scope is in a set of variables; the set has the answer, fresh variables, the hole and all sequences; and no argument at entry
-- is in scope.
pub record Covers (P : Scope) (v : Visible) : Type 0 where
  pub olds : v.olds ≡ []
  pub words : (x : Name) → sort_of v.names x ≡ Some sort.Word → P sort.Word (Named x.bytes) ≡ true
  pub answer : P sort.Word Answer ≡ true
  pub fresh : (k : ℕ) → P sort.Word (Fresh k) ≡ true
  pub hole : P sort.Word Hole ≡ true
  pub lists : (y : Variable) → P sort.Seq y ≡ true

no_item : {x : NameError} {xs : List NameError} → x ∷ xs ≡ [] → ⊥
no_item e = cc

is_word : (o : Option Sort) (at : ℕ) → found_faults (Some sort.Word) o at ≡ [] → o ≡ Some sort.Word
is_word None at e = absurd (no_item e)
is_word (Some sort.Word) at e = refl
is_word (Some sort.Seq) at e = absurd (no_item e)

module _ (P : Scope) (v : Visible) (c : Covers P v) where
  var_fits : (x : Var) → variable_faults v (Some sort.Word) x ≡ [] → P sort.Word (variable x) ≡ true
  var_fits (var.Named x) e = c.words x (is_word (sort_of v.names x) x.at e)
  var_fits (var.Old x) e = absurd (no_item (subst (λ l. word_faults_if (Some sort.Word) (is_among l x) x.at ≡ []) c.olds e))
  var_fits (var.Answer at) e = c.answer
  var_fits (var.Fresh n) e = c.fresh n
  var_fits var.Hole e = c.hole

  -- ---- words and sequences

  abbrev WordFits : Word → Type 0
  WordFits a = word_faults v a ≡ [] → word_in P a ≡ true

  in_of : (x : Word-F Word) → word_in P (roll-Word x) ≡ word_in_step P (map-Word Word Bool (word_in P) x)
  in_of = fold-roll-Word Bool (word_in_step P)

  faults_of : (x : Word-F Word) → word_faults v (roll-Word x) ≡ word_step v (map-Word Word (List NameError) (word_faults v) x)
  faults_of = fold-roll-Word (List NameError) (word_step v)

  word_layer : (y : Word-F ((a : Word) × WordFits a)) → WordFits (roll-Word (map-Word _ _ (λ p. p.0) y))
  word_layer (Word-F.Number n) e = in_of (Word-F.Number n)
  word_layer (Word-F.Label f) e = in_of (Word-F.Label f)
  word_layer (Word-F.Var x) e = in_of (Word-F.Var x) ∙ var_fits x (sym (faults_of (Word-F.Var x)) ∙ e)
  word_layer (Word-F.Add a b) e =
      let h = sym (faults_of (Word-F.Add a.0 b.0)) ∙ e in
      in_of (Word-F.Add a.0 b.0) ∙ both_true (word_in P a.0) (word_in P b.0) (a.1 (no_front (word_faults v a.0) (word_faults v b.0) h)) (b.1 (no_back (word_faults v a.0) (word_faults v b.0) h))
  word_layer (Word-F.Sub a b) e =
      let h = sym (faults_of (Word-F.Sub a.0 b.0)) ∙ e in
      in_of (Word-F.Sub a.0 b.0) ∙ both_true (word_in P a.0) (word_in P b.0) (a.1 (no_front (word_faults v a.0) (word_faults v b.0) h)) (b.1 (no_back (word_faults v a.0) (word_faults v b.0) h))
  word_layer (Word-F.Times n a) e = in_of (Word-F.Times n a.0) ∙ a.1 (sym (faults_of (Word-F.Times n a.0)) ∙ e)

  word_fits : (a : Word) → WordFits a
  word_fits = ind-Word WordFits (λ x y is. subst (λ (z : Word-F Word). WordFits (roll-Word z)) is (word_layer y))

  abbrev SeqFits : Seq → Type 0
  SeqFits s = seq_faults v s ≡ [] → seq_in P s ≡ true

  list_in_of : (x : Seq-F Seq) → seq_in P (roll-Seq x) ≡ seq_in_step P (map-Seq Seq Bool (seq_in P) x)
  list_in_of = fold-roll-Seq Bool (seq_in_step P)

  list_faults_of : (x : Seq-F Seq) → seq_faults v (roll-Seq x) ≡ seq_step v (map-Seq Seq (List NameError) (seq_faults v) x)
  list_faults_of = fold-roll-Seq (List NameError) (seq_step v)

  seq_layer : (y : Seq-F ((s : Seq) × SeqFits s)) → SeqFits (roll-Seq (map-Seq _ _ (λ p. p.0) y))
  seq_layer (Seq-F.Var x) e = list_in_of (Seq-F.Var x) ∙ c.lists (variable x)
  seq_layer Seq-F.Nil e = list_in_of Seq-F.Nil
  seq_layer (Seq-F.Cons a s) e =
      let h = sym (list_faults_of (Seq-F.Cons a s.0)) ∙ e in
      list_in_of (Seq-F.Cons a s.0) ∙ both_true (word_in P a) (seq_in P s.0) (word_fits a (no_front (word_faults v a) (seq_faults v s.0) h)) (s.1 (no_back (word_faults v a) (seq_faults v s.0) h))
  seq_layer (Seq-F.App s t) e =
      let h = sym (list_faults_of (Seq-F.App s.0 t.0)) ∙ e in
      list_in_of (Seq-F.App s.0 t.0) ∙ both_true (seq_in P s.0) (seq_in P t.0) (s.1 (no_front (seq_faults v s.0) (seq_faults v t.0) h)) (t.1 (no_back (seq_faults v s.0) (seq_faults v t.0) h))

  seq_fits : (s : Seq) → SeqFits s
  seq_fits = ind-Seq SeqFits (λ x y is. subst (λ (z : Seq-F Seq). SeqFits (roll-Seq z)) is (seq_layer y))

  -- ---- arguments

  -- a name alone is one of the variables in scope, or the hole
  bare_fits : (x : Name) (hole : Bool) → sort_of v.names x ≡ Some sort.Word → P sort.Word (variable (if hole then var.Hole else var.Named x)) ≡ true
  bare_fits x true e = c.hole
  bare_fits x false e = c.words x e

  bare_word : (x : Name) (at : ℕ) → sort_of v.names x ≡ Some sort.Word → arg_in P (variable_arg sort.Word at (bare_variable x)) ≡ true
  bare_word x at e = ap (word_in P) (sym (rolls-Var (bare_variable x))) ∙ in_of (Word-F.Var (bare_variable x)) ∙ bare_fits x (is_hole x) e

  bare_seq : (x : Name) (at : ℕ) → arg_in P (variable_arg sort.Seq at (bare_variable x)) ≡ true
  bare_seq x at = ap (seq_in P) (sym (seq_rolls-Var (bare_variable x))) ∙ list_in_of (Seq-F.Var (bare_variable x)) ∙ c.lists (variable (bare_variable x))

  own_sort : (x : Name) (own : Sort) → sort_of v.names x ≡ Some own → arg_in P (variable_arg own x.at (bare_variable x)) ≡ true
  own_sort x sort.Word e = bare_word x x.at e
  own_sort x sort.Seq e = bare_seq x x.at

  bare_arg : (asked : Option Sort) (x : Name) → name_faults v asked x ≡ [] → arg_in P (resolved_arg v asked (arg.Bare x)) ≡ true
  bare_arg (Some sort.Word) x e = bare_word x x.at (is_word (sort_of v.names x) x.at e)
  bare_arg (Some sort.Seq) x e = bare_seq x x.at
  bare_arg None x e = by_own (sort_of v.names x) refl e
    where
      by_own : (o : Option Sort) → sort_of v.names x ≡ o → found_faults None o x.at ≡ [] → arg_in P (resolved_arg v None (arg.Bare x)) ≡ true
      by_own None is e = absurd (no_item e)
      by_own (Some own) is e = subst (λ o. arg_in P (variable_arg (unwrap_or o sort.Word) x.at (bare_variable x)) ≡ true) (sym is) (own_sort x own is)

  arg_fits : (asked : Option Sort) (a : Arg) → arg_faults v false asked a ≡ [] → arg_in P (resolved_arg v asked a) ≡ true
  arg_fits asked (arg.Word at a) e = word_fits a (no_back (sort_faults asked sort.Word at) (word_faults v a) e)
  arg_fits asked (arg.Seq at s) e = seq_fits s (no_back (sort_faults asked sort.Seq at) (seq_faults v s) e)
  arg_fits asked (arg.Bare x) e = bare_arg asked x e

  args_fit : (ps : List Bind) (args : List Arg) → args_faults v false ps args ≡ [] → args_in P (changed_args resolved_arg v ps args) ≡ true
  args_fit ps [] e = refl
  args_fit ps (a ∷ more) e =
      both_true (arg_in P (resolved_arg v (first_sort ps) a)) (args_in P (changed_args resolved_arg v (behind_first ps) more))
      (arg_fits (first_sort ps) a (no_front (arg_faults v false (first_sort ps) a) _ e)) (args_fit (behind_first ps) more (no_back (arg_faults v false (first_sort ps) a) _ e))

  -- ---- terms

  two_words : (a b : Word) → word_faults v a ++ word_faults v b ≡ [] → (word_in P a && word_in P b) ≡ true
  two_words a b e = both_true (word_in P a) (word_in P b) (word_fits a (no_front (word_faults v a) (word_faults v b) e)) (word_fits b (no_back (word_faults v a) (word_faults v b) e))

  word_and_seq : (a : Word) (s : Seq) → word_faults v a ++ seq_faults v s ≡ [] → (word_in P a && seq_in P s) ≡ true
  word_and_seq a s e = both_true (word_in P a) (seq_in P s) (word_fits a (no_front (word_faults v a) (seq_faults v s) e)) (seq_fits s (no_back (word_faults v a) (seq_faults v s) e))

  pure_fits : (φ : Pure) → pure_faults v φ ≡ [] → pure_in P φ ≡ true
  pure_fits (pure.Equal a b) e = two_words a b e
  pure_fits (pure.Unequal a b) e = two_words a b e
  pure_fits (pure.Less a b) e = two_words a b e
  pure_fits (pure.AtMost a b) e = two_words a b e
  pure_fits (pure.Same s t) e = both_true (seq_in P s) (seq_in P t) (seq_fits s (no_front (seq_faults v s) (seq_faults v t) e)) (seq_fits t (no_back (seq_faults v s) (seq_faults v t) e))
  pure_fits (pure.Member a s) e = word_and_seq a s e
  pure_fits (pure.NonMember a s) e = word_and_seq a s e
  pure_fits (pure.Code a x) e = word_fits a (no_front (word_faults v a) _ e)

  atom_fits : (t : Atom) → atom_faults v t ≡ [] → atom_in P (changed_atom resolved_arg v t) ≡ true
  atom_fits (atom.Cell a b) e = two_words a b e
  atom_fits (atom.Byte a b) e = two_words a b e
  atom_fits (atom.Block a b) e = two_words a b e
  atom_fits (atom.Pred x args) e =
      args_fit (asked_by (predicate_named v.decls x.bytes) args) args (no_back _ (args_faults v false (asked_by (predicate_named v.decls x.bytes) args) args) (no_back (predicate_name_faults v x) _ e))

  term_fits : (t : Term) → term_faults v t ≡ [] → term_in P (changed_term resolved_arg v t) ≡ true
  term_fits term.Emp e = refl
  term_fits (term.Pure φ) e = pure_fits φ e
  term_fits (term.Atom a) e = atom_fits a e

  terms_fit : (ts : List Term) → terms_faults v ts ≡ [] → terms_in P (map (changed_term resolved_arg v) ts) ≡ true
  terms_fit [] e = refl
  terms_fit (t ∷ ts) e =
      both_true (term_in P (changed_term resolved_arg v t)) (terms_in P (map (changed_term resolved_arg v) ts))
      (term_fits t (no_front (term_faults v t) (terms_faults v ts) e)) (terms_fit ts (no_back (term_faults v t) (terms_faults v ts) e))

-- ---- binders

in_more : (names : List Bind) (b : Bind) (x : Name) → sort_of (names ++ b ∷ []) x ≡ Some sort.Word
    → (sort_of names x ≡ Some sort.Word) ⊎ ((bytes_eq x.bytes b.name.bytes ≡ true) × (b.sort ≡ sort.Word))
in_more [] b x e = by_name (bytes_eq x.bytes b.name.bytes) refl e
  where
    by_name : (t : Bool) → bytes_eq x.bytes b.name.bytes ≡ t → (if t then Some b.sort else None) ≡ Some sort.Word → (sort_of [] x ≡ Some sort.Word) ⊎ ((bytes_eq x.bytes b.name.bytes ≡ true) × (b.sort ≡ sort.Word))
    by_name true is e = inr (is, some_is e)
      where
        some_is : {s : Sort} → ◌≡◌ {A = Option Sort} (Some s) (Some sort.Word) → s ≡ sort.Word
        some_is e = cc
    by_name false is e = inl e
in_more (d ∷ ds) b x e = by_name (bytes_eq x.bytes d.name.bytes) refl (in_more ds b x) e
  where
    by_name : (t : Bool) → bytes_eq x.bytes d.name.bytes ≡ t → (sort_of (ds ++ b ∷ []) x ≡ Some sort.Word → (sort_of ds x ≡ Some sort.Word) ⊎ ((bytes_eq x.bytes b.name.bytes ≡ true) × (b.sort ≡ sort.Word)))
        → (if t then Some d.sort else sort_of (ds ++ b ∷ []) x) ≡ Some sort.Word → (sort_of (d ∷ ds) x ≡ Some sort.Word) ⊎ ((bytes_eq x.bytes b.name.bytes ≡ true) × (b.sort ≡ sort.Word))
    by_name true is later e = inl (rw is e)
    by_name false is later e = elim (later e) [ inl p ↦ inl (rw is p) | inr q ↦ inr q ]

covers_more : (P : Scope) (v : Visible) (b : Bind) → Covers P v → Covers (with_bind P b) (with_names v (b ∷ []))
covers_more P v b c = record {
  olds = c.olds;
  words = λ x e. elim (in_more v.names b x e) [
    | inl p ↦ or_left (P sort.Word (Named x.bytes)) _ (c.words x p)
    | inr q ↦ or_right (P sort.Word (Named x.bytes)) _ (both_true (same_sort sort.Word b.sort) (bytes_eq x.bytes b.name.bytes) (subst (λ s. same_sort sort.Word s ≡ true) (sym q.1) refl) q.0)
  ];
  answer = or_left (P sort.Word Answer) _ c.answer;
  fresh = λ k. or_left (P sort.Word (Fresh k)) _ (c.fresh k);
  hole = or_left (P sort.Word Hole) _ c.hole;
  lists = λ y. or_left (P sort.Seq y) _ (c.lists y);
}

bound_fits : (bs : List Bind) (ts : List Term) (P : Scope) (v : Visible) → Covers P v → ((Q : Scope) → Covers Q (with_names v bs) → terms_in Q ts ≡ true) → bound_in P bs ts ≡ true
bound_fits [] ts P v c done = done P (subst (λ ns. Covers P (record v { names = ns })) (sym (append-nil v.names)) c)
bound_fits (b ∷ bs) ts P v c done =
    bound_fits bs ts (with_bind P b) (with_names v (b ∷ [])) (covers_more P v b c)
    (λ Q cq. done Q (subst (λ ns. Covers Q (record v { names = ns })) (append_assoc v.names (b ∷ []) bs) cq))

-- an assertion without a fault
pub assertion_fits : (P : Scope) (v : Visible) (A : Assertion) → Covers P v → assertion_faults v A ≡ [] → assertion_in P (changed_assertion resolved_arg v A) ≡ true
assertion_fits P v A c e =
    bound_fits A.binders (map (changed_term resolved_arg (with_names v A.binders)) A.terms) P v c
    (λ Q cq. terms_fit Q (with_names v A.binders) cq A.terms (no_back (twice_faults v.names (bind_names A.binders)) (terms_faults (with_names v A.binders) A.terms) e))
