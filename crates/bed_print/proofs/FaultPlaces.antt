-- The faults of terms, assertions and hints are the same, each at place 0, where every place is set to 0.
use Rattle.std.proofs.Common.{◌≡◌, ◌∙◌, sym, ap, ap₂, refl, subst, ℕ, Bool, true, false, ◌&&◌, ◌||◌, ◌==◌, not, List, [], ◌∷◌, ◌++◌, map, is_some, is_none, nat_lt, Option, None, Some}
use Rattle.std.specs.Prelude.{if◌then◌else◌}
use Rattle.std.proofs.lemmas.List.{length-map, map-append}
use Rattle.bed_lang.specs.declared.word.Name.{Name}
use Rattle.bed_lang.specs.declared.word.Sort.{Sort}
use Rattle.bed_lang.specs.declared.word.Sort.TheVariants as sort
use Rattle.bed_lang.specs.declared.word.Var.{Var}
use Rattle.bed_lang.specs.declared.word.Var.TheVariants as var
use Rattle.bed_lang.specs.declared.word.Word.{Word, roll-Word, map-Word, ind-Word, fold-roll-Word}
use Rattle.bed_lang.specs.declared.word.Word.TheOpen.{Word-F}
use Rattle.bed_lang.specs.declared.word.Seq.{Seq, roll-Seq, map-Seq, ind-Seq, fold-roll-Seq}
use Rattle.bed_lang.specs.declared.word.Seq.TheOpen.{Seq-F}
use Rattle.bed_lang.specs.declared.logic.Arg.{Arg}
use Rattle.bed_lang.specs.declared.logic.Arg.TheVariants as arg
use Rattle.bed_lang.specs.declared.logic.Pure.{Pure}
use Rattle.bed_lang.specs.declared.logic.Pure.TheVariants as pure
use Rattle.bed_lang.specs.declared.logic.Atom.{Atom}
use Rattle.bed_lang.specs.declared.logic.Atom.TheVariants as atom
use Rattle.bed_lang.specs.declared.logic.Term.{Term}
use Rattle.bed_lang.specs.declared.logic.Term.TheVariants as term
use Rattle.bed_lang.specs.declared.logic.Bind.{Bind}
use Rattle.bed_lang.specs.declared.logic.Assertion.{Assertion}
use Rattle.bed_lang.specs.declared.module.Predicate.{Predicate}
use Rattle.bed_lang.specs.declared.module.Hint.{Hint}
use Rattle.bed_lang.specs.declared.module.Hint.TheVariants as hint
use Rattle.bed_names.specs.declared.error.NameError.{NameError}
use Rattle.bed_names.specs.declared.error.NameError.TheVariants.{Twice, Unknown, Sort as OfOtherSort, Arity, Dead, MissingJoin, FallsOff, StackRoom, Memory}
use Rattle.bed_names.specs.Faults.{fault_if, all_faults}
use Rattle.bed_lang.specs.Lookups.{signature_named, predicate_named, label_signature}
use Rattle.bed_names.specs.Names.{is_among, sort_of}
use Rattle.bed_names.specs.Terms.{Visible, with_names, is_hole, sort_faults, found_faults, word_faults_if, asked_by, has_other_number, first_sort, behind_first, name_faults, variable_faults, label_faults, signature_name_faults, word_step, word_faults, seq_step, seq_faults, bare_faults, arg_faults, args_faults, predicate_name_faults, applied_faults, pure_faults, atom_faults, term_faults, terms_faults, twice_after, twice_faults, bind_names, assertion_faults, option_faults, has_no_case, hint_faults, hints_faults}
use Rattle.bed_print.proofs.Places.{bare_option, bare_name, bare_var, bare_word, bare_seq, bare_arg, bare_pure, bare_atom, bare_term, bare_bind, bare_assertion, bare_predicate, bare_hint}
use Rattle.bed_print.proofs.BareRolls.{bare_word_layer, bare_word-roll, bare_seq_layer, bare_seq-roll}
use Rattle.bed_print.proofs.NamesPlaces.{bare_visible, asked_by_bare, first_sort_bare, behind_first_bare, bind_names_bare, with_names_bare, signature_named_bare, predicate_named_bare, label_signature_bare, is_among_bare, sort_of_bare}

-- ---- faults at place 0

-- the same fault at place 0
abbrev pub unplaced : NameError → NameError
unplaced (Twice at) = Twice 0
unplaced (Unknown at) = Unknown 0
unplaced (OfOtherSort at) = OfOtherSort 0
unplaced (Arity at) = Arity 0
unplaced (Dead at) = Dead 0
unplaced (MissingJoin at) = MissingJoin 0
unplaced (FallsOff at) = FallsOff 0
unplaced (StackRoom at needs has) = StackRoom 0 needs has
unplaced Memory = Memory

-- the first faults are the second ones, each at place 0
pub record Unplaced (fs gs : List NameError) : Type 0 where
  pub is : fs ≡ map unplaced gs

pub none : Unplaced [] []
none = record { is = refl }

pub one : (f : NameError) → Unplaced (unplaced f ∷ []) (f ∷ [])
one f = record { is = refl }

pub joined : {xs' xs ys' ys : List NameError} → Unplaced xs' xs → Unplaced ys' ys → Unplaced (xs' ++ ys') (xs ++ ys)
joined {xs'} {xs} {ys'} {ys} a b = record { is = ap₂ (λ fs gs. fs ++ gs) a.is b.is ∙ sym (map-append unplaced xs ys) }

-- the same faults, where the test agrees
pub tested : {b' b : Bool} → b' ≡ b → (f : NameError) → Unplaced (fault_if b' (unplaced f)) (fault_if b f)
tested {b'} {b} e f = subst (λ c. Unplaced (fault_if c (unplaced f)) (fault_if b f)) (sym e) (record { is = itself b })
  where
    itself : (c : Bool) → fault_if c (unplaced f) ≡ map unplaced (fault_if c f)
    itself true = refl
    itself false = refl

pub all_joined : {T U : Type 0} (bare : T → U) (f : U → List NameError) (g : T → List NameError) → ((x : T) → Unplaced (f (bare x)) (g x))
    → (xs : List T) → Unplaced (all_faults f (map bare xs)) (all_faults g xs)
all_joined bare f g each [] = none
all_joined bare f g each (x ∷ xs) = joined (each x) (all_joined bare f g each xs)

-- ---- terms

sort_bare : (asked : Option Sort) (own : Sort) (at : ℕ) → Unplaced (sort_faults asked own 0) (sort_faults asked own at)
sort_bare asked own at = tested refl (OfOtherSort at)

found_bare : (asked own : Option Sort) (at : ℕ) → Unplaced (found_faults asked own 0) (found_faults asked own at)
found_bare asked None at = one (Unknown at)
found_bare asked (Some own) at = sort_bare asked own at

word_if_bare : (asked : Option Sort) (known : Bool) (at : ℕ) → Unplaced (word_faults_if asked known 0) (word_faults_if asked known at)
word_if_bare asked true at = sort_bare asked sort.Word at
word_if_bare asked false at = one (Unknown at)

none_bare : {T : Type 0} (f : T → T) (o : Option T) → is_none (bare_option f o) ≡ is_none o
none_bare f None = refl
none_bare f (Some x) = refl

other_number_bare : (o : Option Predicate) (as' : List Arg)
    → has_other_number (bare_option bare_predicate o) (map bare_arg as') ≡ has_other_number o as'
other_number_bare None as' = refl
other_number_bare (Some p) as' = ap₂ (λ n m. not (n == m)) (length-map p.params bare_bind) (length-map as' bare_arg)

no_case_bare : (o : Option Predicate) (n : ℕ) → has_no_case (bare_option bare_predicate o) n ≡ has_no_case o n
no_case_bare None n = refl
no_case_bare (Some p) n = ap (λ k. (n == 0) || nat_lt k n) (length-map p.cases bare_assertion)

module _ (v : Visible) where
  abbrev v' : Visible
  v' = bare_visible v

  name_bare : (asked : Option Sort) (x : Name) → Unplaced (name_faults v' asked (bare_name x)) (name_faults v asked x)
  name_bare asked x =
      subst (λ o. Unplaced (found_faults asked o 0) (name_faults v asked x)) (sym (sort_of_bare v.names x))
      (found_bare asked (sort_of v.names x) x.at)

  variable_bare : (asked : Option Sort) (x : Var) → Unplaced (variable_faults v' asked (bare_var x)) (variable_faults v asked x)
  variable_bare asked (var.Named x) = name_bare asked x
  variable_bare asked (var.Old x) =
      subst (λ b. Unplaced (word_faults_if asked b 0) (word_faults_if asked (is_among v.olds x) x.at)) (sym (is_among_bare v.olds x))
      (word_if_bare asked (is_among v.olds x) x.at)
  variable_bare asked (var.Answer at) = word_if_bare asked v.answer at
  variable_bare asked (var.Fresh n) = none
  variable_bare asked var.Hole = none

  pub label_bare : (f : Name) → Unplaced (label_faults v' (bare_name f)) (label_faults v f)
  label_bare f = tested (ap is_none (label_signature_bare v.decls f) ∙ none_bare bare_name (label_signature v.decls f.bytes)) (Unknown f.at)

  pub signature_name_bare : (x : Name) → Unplaced (signature_name_faults v' (bare_name x)) (signature_name_faults v x)
  signature_name_bare x = tested (ap is_none (signature_named_bare v.decls x) ∙ none_bare _ (signature_named v.decls x.bytes)) (Unknown x.at)

  abbrev WordBare : Word → Type 0
  WordBare w = Unplaced (word_faults v' (bare_word w)) (word_faults v w)

  word_layer : (y : Word-F ((w : Word) × WordBare w))
      → Unplaced (word_step v' (map-Word _ _ (word_faults v') (bare_word_layer (map-Word _ _ bare_word (map-Word _ _ (λ p. p.0) y)))))
      (word_step v (map-Word _ _ (word_faults v) (map-Word _ _ (λ p. p.0) y)))
  word_layer (Word-F.Number n) = none
  word_layer (Word-F.Var x) = variable_bare (Some sort.Word) x
  word_layer (Word-F.Label f) = label_bare f
  word_layer (Word-F.Add a b) = joined a.1 b.1
  word_layer (Word-F.Sub a b) = joined a.1 b.1
  word_layer (Word-F.Times n a) = a.1

  word_roll : (x : Word-F Word)
      → Unplaced (word_step v' (map-Word _ _ (word_faults v') (bare_word_layer (map-Word _ _ bare_word x)))) (word_step v (map-Word _ _ (word_faults v) x))
      → WordBare (roll-Word x)
  word_roll x h = record {
    is = ap (word_faults v') (bare_word-roll x)
        ∙ fold-roll-Word (List NameError) (word_step v') (bare_word_layer (map-Word _ _ bare_word x))
        ∙ h.is ∙ ap (map unplaced) (sym (fold-roll-Word (List NameError) (word_step v) x));
  }

  pub word_bare : (w : Word) → WordBare w
  word_bare =
      ind-Word WordBare (λ x y is. subst (λ (z : Word-F Word). WordBare (roll-Word z)) is (word_roll (map-Word _ _ (λ p. p.0) y) (word_layer y)))

  abbrev SeqBare : Seq → Type 0
  SeqBare s = Unplaced (seq_faults v' (bare_seq s)) (seq_faults v s)

  seq_layer : (y : Seq-F ((s : Seq) × SeqBare s))
      → Unplaced (seq_step v' (map-Seq _ _ (seq_faults v') (bare_seq_layer (map-Seq _ _ bare_seq (map-Seq _ _ (λ p. p.0) y)))))
      (seq_step v (map-Seq _ _ (seq_faults v) (map-Seq _ _ (λ p. p.0) y)))
  seq_layer (Seq-F.Var x) = variable_bare (Some sort.Seq) x
  seq_layer Seq-F.Nil = none
  seq_layer (Seq-F.Cons a s) = joined (word_bare a) s.1
  seq_layer (Seq-F.App s t) = joined s.1 t.1

  seq_roll : (x : Seq-F Seq)
      → Unplaced (seq_step v' (map-Seq _ _ (seq_faults v') (bare_seq_layer (map-Seq _ _ bare_seq x)))) (seq_step v (map-Seq _ _ (seq_faults v) x))
      → SeqBare (roll-Seq x)
  seq_roll x h = record {
    is = ap (seq_faults v') (bare_seq-roll x)
        ∙ fold-roll-Seq (List NameError) (seq_step v') (bare_seq_layer (map-Seq _ _ bare_seq x))
        ∙ h.is ∙ ap (map unplaced) (sym (fold-roll-Seq (List NameError) (seq_step v) x));
  }

  pub seq_bare : (s : Seq) → SeqBare s
  seq_bare =
      ind-Seq SeqBare (λ x y is. subst (λ (z : Seq-F Seq). SeqBare (roll-Seq z)) is (seq_roll (map-Seq _ _ (λ p. p.0) y) (seq_layer y)))

  bare_bare : (holes : Bool) (asked : Option Sort) (x : Name) → Unplaced (bare_faults v' holes asked (bare_name x)) (bare_faults v holes asked x)
  bare_bare holes asked x = either (holes && is_hole x)
    where
      either : (b : Bool) → Unplaced (if b then [] else name_faults v' asked (bare_name x)) (if b then [] else name_faults v asked x)
      either true = none
      either false = name_bare asked x

  pub arg_bare : (holes : Bool) (asked : Option Sort) (a : Arg) → Unplaced (arg_faults v' holes asked (bare_arg a)) (arg_faults v holes asked a)
  arg_bare holes asked (arg.Word at a) = joined (sort_bare asked sort.Word at) (word_bare a)
  arg_bare holes asked (arg.Seq at s) = joined (sort_bare asked sort.Seq at) (seq_bare s)
  arg_bare holes asked (arg.Bare x) = bare_bare holes asked x

  args_bare : (holes : Bool) (ps ps' : List Bind) (as' : List Arg) → ps' ≡ map bare_bind ps
      → Unplaced (args_faults v' holes ps' (map bare_arg as')) (args_faults v holes ps as')
  args_bare holes ps ps' [] e = none
  args_bare holes ps ps' (a ∷ more) e =
      joined
      (subst (λ o. Unplaced (arg_faults v' holes o (bare_arg a)) (arg_faults v holes (first_sort ps) a)) (sym (ap first_sort e ∙ first_sort_bare ps))
      (arg_bare holes (first_sort ps) a))
      (args_bare holes (behind_first ps) (behind_first ps') more (ap behind_first e ∙ behind_first_bare ps))

  predicate_name_bare : (x : Name) → Unplaced (predicate_name_faults v' (bare_name x)) (predicate_name_faults v x)
  predicate_name_bare x = tested (ap is_none (predicate_named_bare v.decls x) ∙ none_bare _ (predicate_named v.decls x.bytes)) (Unknown x.at)

  applied_bare : (holes : Bool) (x : Name) (as' : List Arg)
      → Unplaced (applied_faults v' holes (bare_name x) (map bare_arg as')) (applied_faults v holes x as')
  applied_bare holes x as' =
      joined (predicate_name_bare x)
      (joined
      (tested (ap (λ o. has_other_number o (map bare_arg as')) (predicate_named_bare v.decls x) ∙ other_number_bare (predicate_named v.decls x.bytes) as') (Arity x.at))
      (args_bare holes (asked_by (predicate_named v.decls x.bytes) as') _ as'
      (ap (λ o. asked_by o (map bare_arg as')) (predicate_named_bare v.decls x) ∙ asked_by_bare (predicate_named v.decls x.bytes) as')))

  pub pure_bare : (p : Pure) → Unplaced (pure_faults v' (bare_pure p)) (pure_faults v p)
  pure_bare (pure.Equal a b) = joined (word_bare a) (word_bare b)
  pure_bare (pure.Unequal a b) = joined (word_bare a) (word_bare b)
  pure_bare (pure.Less a b) = joined (word_bare a) (word_bare b)
  pure_bare (pure.AtMost a b) = joined (word_bare a) (word_bare b)
  pure_bare (pure.Same s t) = joined (seq_bare s) (seq_bare t)
  pure_bare (pure.Member a s) = joined (word_bare a) (seq_bare s)
  pure_bare (pure.NonMember a s) = joined (word_bare a) (seq_bare s)
  pure_bare (pure.Code a x) = joined (word_bare a) (signature_name_bare x)

  atom_bare : (a : Atom) → Unplaced (atom_faults v' (bare_atom a)) (atom_faults v a)
  atom_bare (atom.Cell a b) = joined (word_bare a) (word_bare b)
  atom_bare (atom.Byte a b) = joined (word_bare a) (word_bare b)
  atom_bare (atom.Block a b) = joined (word_bare a) (word_bare b)
  atom_bare (atom.Pred x as') = applied_bare false x as'

  term_bare : (t : Term) → Unplaced (term_faults v' (bare_term t)) (term_faults v t)
  term_bare term.Emp = none
  term_bare (term.Pure a) = pure_bare a
  term_bare (term.Atom a) = atom_bare a

-- ---- names that are declared

twice_after_bare : (names : List Bind) (earlier : List Name) (earlier' : List Name) (xs : List Name) → earlier' ≡ map bare_name earlier
    → Unplaced (twice_after (map bare_bind names) earlier' (map bare_name xs)) (twice_after names earlier xs)
twice_after_bare names earlier earlier' [] e = none
twice_after_bare names earlier earlier' (x ∷ xs) e =
    joined
    (tested (ap₂ (λ a b. a || b) (ap is_some (sort_of_bare names x)) (ap (λ ys. is_among ys (bare_name x)) e ∙ is_among_bare earlier x)) (Twice x.at))
    (twice_after_bare names (earlier ++ x ∷ []) (earlier' ++ bare_name x ∷ []) xs
    (ap (λ ys. ys ++ bare_name x ∷ []) e ∙ sym (map-append bare_name earlier (x ∷ []))))

pub twice_bare : (names : List Bind) (xs : List Name) {names' : List Bind} {xs' : List Name} → names' ≡ map bare_bind names → xs' ≡ map bare_name xs
    → Unplaced (twice_faults names' xs') (twice_faults names xs)
twice_bare names xs {names'} {xs'} e f =
    subst (λ ns. Unplaced (twice_faults ns xs') (twice_faults names xs)) (sym e)
    (subst (λ ys. Unplaced (twice_faults (map bare_bind names) ys) (twice_faults names xs)) (sym f) (twice_after_bare names [] [] xs refl))

-- ---- assertions and hints

pub assertion_bare : (v : Visible) (a : Assertion) → Unplaced (assertion_faults (bare_visible v) (bare_assertion a)) (assertion_faults v a)
assertion_bare v a =
    joined (twice_bare v.names (bind_names a.binders) refl (bind_names_bare a.binders))
    (subst (λ w. Unplaced (terms_faults w (map bare_term a.terms)) (terms_faults (with_names v a.binders) a.terms)) (sym (with_names_bare v a.binders))
    (all_joined bare_term _ _ (term_bare (with_names v a.binders)) a.terms))

-- the same, where the scope is another one that is equal
pub assertion_bare_in : (v w : Visible) (a : Assertion) → w ≡ bare_visible v → Unplaced (assertion_faults w (bare_assertion a)) (assertion_faults v a)
assertion_bare_in v w a e = subst (λ u. Unplaced (assertion_faults u (bare_assertion a)) (assertion_faults v a)) (sym e) (assertion_bare v a)

module _ (v : Visible) where
  option_bare : (o : Option Word) → Unplaced (option_faults (bare_visible v) (bare_option bare_word o)) (option_faults v o)
  option_bare None = none
  option_bare (Some a) = word_bare v a

  pub hint_bare : (h : Hint) → Unplaced (hint_faults (bare_visible v) (bare_hint h)) (hint_faults v h)
  hint_bare (hint.Unfold x at) = joined (predicate_name_bare v x) (option_bare at)
  hint_bare (hint.Fold x as' n) =
      joined (tested (ap (λ o. has_no_case o n) (predicate_named_bare v.decls x) ∙ no_case_bare (predicate_named v.decls x.bytes) n) (Arity x.at))
      (applied_bare v true x as')
  hint_bare (hint.Append a) = word_bare v a
  hint_bare (hint.Divide a b) = joined (word_bare v a) (word_bare v b)
  hint_bare (hint.Merge a b) = joined (word_bare v a) (word_bare v b)
  hint_bare (hint.Bytes a) = word_bare v a
  hint_bare (hint.Word a) = word_bare v a
  hint_bare (hint.Cell a) = word_bare v a
  hint_bare (hint.Uncell a) = word_bare v a
  hint_bare (hint.Drop a) = word_bare v a
  hint_bare (hint.Claim a) = pure_bare v a
  hint_bare (hint.When a) = pure_bare v a
  hint_bare (hint.Give x a) = arg_bare v false None a

  pub hints_bare : (hs : List Hint) → Unplaced (hints_faults (bare_visible v) (map bare_hint hs)) (hints_faults v hs)
  hints_bare hs = all_joined bare_hint _ _ hint_bare hs
