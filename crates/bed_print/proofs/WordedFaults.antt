-- Wording changes no fault: neither where terms are looked up in the declarations of the worded module, nor where their own
-- names alone become words.
use Rattle.std.proofs.Common.{◌≡◌, ℕ, Bool, true, false, if◌then◌else◌, List, [], ◌∷◌, ◌++◌, map, length, Option, None, Some, is_none, unwrap_or, refl, ap, sym, ◌∙◌}
use Rattle.std.proofs.Math.Path.{fun_ext}
use Rattle.bed_lang.specs.declared.word.Name.{Name}
use Rattle.bed_lang.specs.declared.word.Sort.{Sort}
use Rattle.bed_lang.specs.declared.word.Sort.TheVariants as sort
use Rattle.bed_lang.specs.declared.word.Var.TheVariants as var
use Rattle.bed_lang.specs.declared.word.Word.{Word, Var as WordVar, fold-Word, fold-roll-Word}
use Rattle.bed_lang.specs.declared.word.Word.TheOpen.{Word-F}
use Rattle.bed_lang.specs.declared.word.Word.TheVariants.{rolls-Var}
use Rattle.bed_lang.specs.declared.word.Seq.{Seq, fold-Seq}
use Rattle.bed_lang.specs.declared.word.Seq.TheOpen.{Seq-F}
use Rattle.bed_lang.specs.declared.logic.Arg.{Arg}
use Rattle.bed_lang.specs.declared.logic.Arg.TheVariants as arg
use Rattle.bed_lang.specs.declared.logic.Pure.{Pure}
use Rattle.bed_lang.specs.declared.logic.Pure.TheVariants as pure
use Rattle.bed_lang.specs.declared.logic.Atom.{Atom}
use Rattle.bed_lang.specs.declared.logic.Atom.TheVariants as atom
use Rattle.bed_lang.specs.declared.logic.Term.{Term}
use Rattle.bed_lang.specs.declared.logic.Term.TheVariants as term
use Rattle.bed_lang.specs.declared.logic.Bind.{Bind}
use Rattle.bed_lang.specs.declared.logic.Assertion.{Assertion}
use Rattle.bed_lang.specs.declared.module.Predicate.{Predicate}
use Rattle.bed_lang.specs.declared.module.Hint.{Hint}
use Rattle.bed_lang.specs.declared.module.Hint.TheVariants as hint
use Rattle.bed_lang.specs.declared.condition.Decls.{Decls}
use Rattle.bed_names.specs.declared.error.NameError.{NameError}
use Rattle.bed_names.specs.declared.error.NameError.TheVariants.{Unknown, Arity}
use Rattle.bed_names.specs.Faults.{fault_if, all_faults}
use Rattle.bed_lang.specs.Lookups.{signature_named, predicate_named}
use Rattle.bed_names.specs.Names.{sort_of}
use Rattle.bed_names.specs.Terms.{Visible, with_names, is_hole, sort_faults, found_faults, asked_by, has_other_number, first_sort, behind_first, name_faults, label_faults, signature_name_faults, word_step, word_faults, seq_step, seq_faults, bare_faults, arg_faults, args_faults, predicate_name_faults, applied_faults, pure_faults, atom_faults, term_faults, twice_faults, bind_names, assertion_faults, option_faults, has_no_case, hint_faults, hints_faults}
use Rattle.bed_names.specs.Resolved.{bare_sort}
use Rattle.bed_print.proofs.Worded.{bracketed, worded_arg, worded_args, worded_applied, worded_atom, worded_term, worded_assertion, worded_hint}
use Rattle.bed_print.proofs.WordedScopes.{SameDeclarations, unknown_predicate, unknown_signature, asked_same, other_number_same, no_case_same, asked_length, other_number_length, worded_length}

-- parts of a list that stay
pub both : {T : Type 0} (a b x y : List T) → a ≡ x → b ≡ y → a ++ b ≡ x ++ y
both a b x y p q = ap (λ l. l ++ b) p ∙ ap (λ l. x ++ l) q

-- items with the same faults, as they are or changed
pub all_same : {T : Type 0} (f g : T → List NameError) → ((t : T) → f t ≡ g t) → (ts : List T) → all_faults f ts ≡ all_faults g ts
all_same f g each ts = ap (λ h. all_faults h ts) (fun_ext each)

pub all_changed : {T : Type 0} (f : T → List NameError) (change : T → T) → ((t : T) → f (change t) ≡ f t) → (ts : List T)
    → all_faults f (map change ts) ≡ all_faults f ts
all_changed f change each [] = refl
all_changed f change each (t ∷ ts) =
    both (f (change t)) (all_faults f (map change ts)) (f t) (all_faults f ts) (each t) (all_changed f change each ts)

-- ---- under other declarations in which names stand for the same

abbrev pub under : Decls → Visible → Visible
under d v = record v { decls = d }

module _ (d : Decls) (v : Visible) (same : SameDeclarations d v.decls) where
  pub label_under : (x : Name) → label_faults (under d v) x ≡ label_faults v x
  label_under x = ap (λ o. fault_if (is_none o) (Unknown x.at)) (same.label x)

  pub signature_name_under : (x : Name) → signature_name_faults (under d v) x ≡ signature_name_faults v x
  signature_name_under x =
      ap (λ b. fault_if b (Unknown x.at)) (unknown_signature (signature_named d x.bytes) (signature_named v.decls x.bytes) (same.signature x))

  word_step_under : (w : Word-F (List NameError)) → word_step (under d v) w ≡ word_step v w
  word_step_under (Word-F.Number n) = refl
  word_step_under (Word-F.Var x) = refl
  word_step_under (Word-F.Label f) = label_under f
  word_step_under (Word-F.Add a b) = refl
  word_step_under (Word-F.Sub a b) = refl
  word_step_under (Word-F.Times n a) = refl

  pub word_under : (w : Word) → word_faults (under d v) w ≡ word_faults v w
  word_under w = ap (λ step. fold-Word (List NameError) step w) (fun_ext word_step_under)

  words_under : (a b : Word) → word_faults (under d v) a ++ word_faults (under d v) b ≡ word_faults v a ++ word_faults v b
  words_under a b = both (word_faults (under d v) a) (word_faults (under d v) b) (word_faults v a) (word_faults v b) (word_under a) (word_under b)

  seq_step_under : (s : Seq-F (List NameError)) → seq_step (under d v) s ≡ seq_step v s
  seq_step_under (Seq-F.Var x) = refl
  seq_step_under Seq-F.Nil = refl
  seq_step_under (Seq-F.Cons a s) = ap (λ l. l ++ s) (word_under a)
  seq_step_under (Seq-F.App s t) = refl

  pub seq_under : (s : Seq) → seq_faults (under d v) s ≡ seq_faults v s
  seq_under s = ap (λ step. fold-Seq (List NameError) step s) (fun_ext seq_step_under)

  arg_under : (holes : Bool) (asked : Option Sort) (a : Arg) → arg_faults (under d v) holes asked a ≡ arg_faults v holes asked a
  arg_under holes asked (arg.Word at a) = ap (λ l. sort_faults asked sort.Word at ++ l) (word_under a)
  arg_under holes asked (arg.Seq at s) = ap (λ l. sort_faults asked sort.Seq at ++ l) (seq_under s)
  arg_under holes asked (arg.Bare x) = refl

  args_under : (holes : Bool) (ps : List Bind) (as' : List Arg) → args_faults (under d v) holes ps as' ≡ args_faults v holes ps as'
  args_under holes ps [] = refl
  args_under holes ps (a ∷ more) =
      both (arg_faults (under d v) holes (first_sort ps) a) (args_faults (under d v) holes (behind_first ps) more)
      (arg_faults v holes (first_sort ps) a) (args_faults v holes (behind_first ps) more)
      (arg_under holes (first_sort ps) a) (args_under holes (behind_first ps) more)

  predicate_name_under : (x : Name) → predicate_name_faults (under d v) x ≡ predicate_name_faults v x
  predicate_name_under x =
      ap (λ b. fault_if b (Unknown x.at)) (unknown_predicate (predicate_named d x.bytes) (predicate_named v.decls x.bytes) (same.predicate x))

  applied_under : (holes : Bool) (x : Name) (as' : List Arg) → applied_faults (under d v) holes x as' ≡ applied_faults v holes x as'
  applied_under holes x as' =
      let old : Option Predicate = predicate_named v.decls x.bytes in
      let new : Option Predicate = predicate_named d x.bytes in
      both (predicate_name_faults (under d v) x)
      (fault_if (has_other_number new as') (Arity x.at) ++ args_faults (under d v) holes (asked_by new as') as')
      (predicate_name_faults v x)
      (fault_if (has_other_number old as') (Arity x.at) ++ args_faults v holes (asked_by old as') as')
      (predicate_name_under x)
      (both (fault_if (has_other_number new as') (Arity x.at)) (args_faults (under d v) holes (asked_by new as') as')
      (fault_if (has_other_number old as') (Arity x.at)) (args_faults v holes (asked_by old as') as')
      (ap (λ b. fault_if b (Arity x.at)) (other_number_same new old as' (same.predicate x)))
      (ap (λ ps. args_faults (under d v) holes ps as') (asked_same new old as' (same.predicate x)) ∙ args_under holes (asked_by old as') as'))

  pub pure_under : (a : Pure) → pure_faults (under d v) a ≡ pure_faults v a
  pure_under (pure.Equal a b) = words_under a b
  pure_under (pure.Unequal a b) = words_under a b
  pure_under (pure.Less a b) = words_under a b
  pure_under (pure.AtMost a b) = words_under a b
  pure_under (pure.Same s t) = both (seq_faults (under d v) s) (seq_faults (under d v) t) (seq_faults v s) (seq_faults v t) (seq_under s) (seq_under t)
  pure_under (pure.Member a s) = both (word_faults (under d v) a) (seq_faults (under d v) s) (word_faults v a) (seq_faults v s) (word_under a) (seq_under s)
  pure_under (pure.NonMember a s) = both (word_faults (under d v) a) (seq_faults (under d v) s) (word_faults v a) (seq_faults v s) (word_under a) (seq_under s)
  pure_under (pure.Code a x) =
      both (word_faults (under d v) a) (signature_name_faults (under d v) x) (word_faults v a) (signature_name_faults v x) (word_under a) (signature_name_under x)

  atom_under : (a : Atom) → atom_faults (under d v) a ≡ atom_faults v a
  atom_under (atom.Cell a b) = words_under a b
  atom_under (atom.Byte a b) = words_under a b
  atom_under (atom.Block a b) = words_under a b
  atom_under (atom.Pred x as') = applied_under false x as'

  term_under : (t : Term) → term_faults (under d v) t ≡ term_faults v t
  term_under term.Emp = refl
  term_under (term.Pure a) = pure_under a
  term_under (term.Atom a) = atom_under a

  option_under : (o : Option Word) → option_faults (under d v) o ≡ option_faults v o
  option_under None = refl
  option_under (Some a) = word_under a

  pub hint_under : (h : Hint) → hint_faults (under d v) h ≡ hint_faults v h
  hint_under (hint.Unfold x at) =
      both (predicate_name_faults (under d v) x) (option_faults (under d v) at) (predicate_name_faults v x) (option_faults v at)
      (predicate_name_under x) (option_under at)
  hint_under (hint.Fold x as' n) =
      both (fault_if (has_no_case (predicate_named d x.bytes) n) (Arity x.at)) (applied_faults (under d v) true x as')
      (fault_if (has_no_case (predicate_named v.decls x.bytes) n) (Arity x.at)) (applied_faults v true x as')
      (ap (λ b. fault_if b (Arity x.at)) (no_case_same (predicate_named d x.bytes) (predicate_named v.decls x.bytes) n (same.predicate x)))
      (applied_under true x as')
  hint_under (hint.Append a) = word_under a
  hint_under (hint.Divide a b) = words_under a b
  hint_under (hint.Merge a b) = words_under a b
  hint_under (hint.Bytes a) = word_under a
  hint_under (hint.Word a) = word_under a
  hint_under (hint.Cell a) = word_under a
  hint_under (hint.Uncell a) = word_under a
  hint_under (hint.Drop a) = word_under a
  hint_under (hint.Claim a) = pure_under a
  hint_under (hint.When a) = pure_under a
  hint_under (hint.Give x a) = arg_under false None a

  pub hints_under : (hs : List Hint) → hints_faults (under d v) hs ≡ hints_faults v hs
  hints_under hs = all_same (hint_faults (under d v)) (hint_faults v) hint_under hs

pub assertion_under : (d : Decls) (v : Visible) → SameDeclarations d v.decls → (a : Assertion) → assertion_faults (under d v) a ≡ assertion_faults v a
assertion_under d v same a =
    ap (λ l. twice_faults v.names (bind_names a.binders) ++ l)
    (all_same (term_faults (with_names (under d v) a.binders)) (term_faults (with_names v a.binders)) (term_under d (with_names v a.binders) same) a.terms)

-- ---- where names alone become words

module _ (v : Visible) where
  -- a name that isn't a hole is looked up
  looked_up : (holes : Bool) (asked : Option Sort) (x : Name) → is_hole x ≡ false → name_faults v asked x ≡ bare_faults v holes asked x
  looked_up false asked x e = refl
  looked_up true asked x e = ap (λ b. if b then [] else name_faults v asked x) (sym e)

  -- a name in brackets
  named_word : (x : Name) → word_faults v (WordVar (var.Named x)) ≡ name_faults v (Some sort.Word) x
  named_word x = ap (word_faults v) (sym (rolls-Var (var.Named x))) ∙ fold-roll-Word (List NameError) (word_step v) (Word-F.Var (var.Named x))

  -- where no sort is asked for, what is found is a word or nothing
  unasked : (own : Option Sort) (at : ℕ) → unwrap_or own sort.Word ≡ sort.Word → found_faults (Some sort.Word) own at ≡ found_faults None own at
  unasked None at e = refl
  unasked (Some sort.Word) at e = refl
  unasked (Some sort.Seq) at e = absurd (cc)

  bracketed_same : (holes : Bool) (asked : Option Sort) (x : Name) (s : Sort) → is_hole x ≡ false → bare_sort v asked x ≡ s
      → arg_faults v holes asked (bracketed s x) ≡ bare_faults v holes asked x
  bracketed_same holes asked x sort.Seq e is = refl
  bracketed_same holes (Some sort.Seq) x sort.Word e is = absurd (cc)
  bracketed_same holes (Some sort.Word) x sort.Word e is = named_word x ∙ looked_up holes (Some sort.Word) x e
  bracketed_same holes None x sort.Word e is = named_word x ∙ unasked (sort_of v.names x) x.at is ∙ looked_up holes None x e

  arg_worded : (holes : Bool) (asked : Option Sort) (a : Arg) → arg_faults v holes asked (worded_arg v asked a) ≡ arg_faults v holes asked a
  arg_worded holes asked (arg.Word at a) = refl
  arg_worded holes asked (arg.Seq at s) = refl
  arg_worded holes asked (arg.Bare x) = by_test (is_hole x) refl
    where
      by_test : (b : Bool) → is_hole x ≡ b
          → arg_faults v holes asked (if b then arg.Bare x else bracketed (bare_sort v asked x) x) ≡ bare_faults v holes asked x
      by_test true e = refl
      by_test false e = bracketed_same holes asked x (bare_sort v asked x) e refl

  args_worded : (holes : Bool) (ps : List Bind) (as' : List Arg) → args_faults v holes ps (worded_args v ps as') ≡ args_faults v holes ps as'
  args_worded holes ps [] = refl
  args_worded holes ps (a ∷ more) =
      both (arg_faults v holes (first_sort ps) (worded_arg v (first_sort ps) a))
      (args_faults v holes (behind_first ps) (worded_args v (behind_first ps) more))
      (arg_faults v holes (first_sort ps) a) (args_faults v holes (behind_first ps) more)
      (arg_worded holes (first_sort ps) a) (args_worded holes (behind_first ps) more)

  applied_worded : (holes : Bool) (x : Name) (as' : List Arg) → applied_faults v holes x (worded_applied v x as') ≡ applied_faults v holes x as'
  applied_worded holes x as' =
      let o : Option Predicate = predicate_named v.decls x.bytes in
      let bs : List Arg = worded_args v (asked_by o as') as' in
      let long : length bs ≡ length as' = worded_length v (asked_by o as') as' in
      ap (λ l. predicate_name_faults v x ++ l)
      (both (fault_if (has_other_number o bs) (Arity x.at)) (args_faults v holes (asked_by o bs) bs)
      (fault_if (has_other_number o as') (Arity x.at)) (args_faults v holes (asked_by o as') as')
      (ap (λ b. fault_if b (Arity x.at)) (other_number_length o bs as' long))
      (ap (λ ps. args_faults v holes ps bs) (asked_length o bs as' long) ∙ args_worded holes (asked_by o as') as'))

  atom_worded : (a : Atom) → atom_faults v (worded_atom v a) ≡ atom_faults v a
  atom_worded (atom.Cell a b) = refl
  atom_worded (atom.Byte a b) = refl
  atom_worded (atom.Block a b) = refl
  atom_worded (atom.Pred x as') = applied_worded false x as'

  term_worded : (t : Term) → term_faults v (worded_term v t) ≡ term_faults v t
  term_worded term.Emp = refl
  term_worded (term.Pure a) = refl
  term_worded (term.Atom a) = atom_worded a

  pub hint_worded : (h : Hint) → hint_faults v (worded_hint v h) ≡ hint_faults v h
  hint_worded (hint.Fold x as' n) = ap (λ l. fault_if (has_no_case (predicate_named v.decls x.bytes) n) (Arity x.at) ++ l) (applied_worded true x as')
  hint_worded (hint.Give x a) = arg_worded false None a
  hint_worded (hint.Unfold x at) = refl
  hint_worded (hint.Append a) = refl
  hint_worded (hint.Divide a b) = refl
  hint_worded (hint.Merge a b) = refl
  hint_worded (hint.Bytes a) = refl
  hint_worded (hint.Word a) = refl
  hint_worded (hint.Cell a) = refl
  hint_worded (hint.Uncell a) = refl
  hint_worded (hint.Drop a) = refl
  hint_worded (hint.Claim a) = refl
  hint_worded (hint.When a) = refl

  pub hints_worded : (hs : List Hint) → hints_faults v (map (worded_hint v) hs) ≡ hints_faults v hs
  hints_worded hs = all_changed (hint_faults v) (worded_hint v) hint_worded hs

pub assertion_worded : (v : Visible) (a : Assertion) → assertion_faults v (worded_assertion v a) ≡ assertion_faults v a
assertion_worded v a =
    let inner : Visible = with_names v a.binders in
    ap (λ l. twice_faults v.names (bind_names a.binders) ++ l) (all_changed (term_faults inner) (worded_term inner) (term_worded inner) a.terms)
