-- A function's entry and its returns: what its signature says there, in the values of its activation.
use Rattle.std.proofs.Common.{◌≡◌, ◌≢◌, ℕ, zero, suc, ◌+◌, ◌<◌, ◌≤◌, Bool, true, false, not, ◌||◌, IsTrue, Some, None, List, [], ◌∷◌, ◌++◌, map, take, drop, length, bytes_eq, Contains, inl, inr, ◌⊎◌, refl, sym, ◌∙◌, ap, ap₂, subst, arith, append_assoc, length-append}
use Rattle.std.proofs.lemmas.List.{take-append-drop, length-take-le}
use Rattle.std.proofs.lemmas.Bool.{cases_Bool}
use Rattle.bed_lang.specs.Numbers.{wrap}
use Rattle.bed_lang.specs.declared.word.Name.{Name}
use Rattle.bed_lang.specs.declared.word.Sort.TheVariants as sort
use Rattle.bed_lang.specs.declared.module.Signature.{Signature}
use Rattle.bed_lang.specs.Lookups.{count_of_params}
use Rattle.bed_lang.specs.Values.{Values, Variable, Named, Old, Answer, Fresh, Hole, set_word}
use Rattle.bed_machine.specs.Memory.{Memory, IsMemory, empty, word_at, put_word}
use Rattle.bed_machine.proofs.WordLaws.{four_bytes, put_word_memory}
use Rattle.bed_table.specs.Layout.{is_among}
use Rattle.bed_sat.specs.Parts.{Joins, Includes}
use Rattle.bed_sat.specs.Cells.{AreWordsAt}
use Rattle.bed_sat.specs.Assertions.{World, Holds}
use Rattle.bed_sat.specs.Frames.{set_words, words_at, arguments_at, EntersAt, LeavesAt}
use Rattle.bed_sat.specs.Conditions.{Path, path_at_entry, body_part}
use Rattle.bed_sat.specs.Scopes.{Agree}
use Rattle.bed_sat.proofs.PartLaws.{joins_left, joins_right, joins_empty, to_empty, includes_trans}
use Rattle.bed_sat.proofs.BlockLaws.{word_place, put_slot, load_slot}
use Rattle.bed_sat.proofs.FrameLaws.{bytes_eq_same, bytes_eq_is, bytes_eq_not, set_same, set_other}
use Rattle.bed_sat.proofs.ScopeLaws.{holds_agree}
use Rattle.bed_il.specs.declared.blocks.Block.{Block}
use Rattle.bed_il.specs.BlockMachine.{BlockState, at_label}
use Rattle.bed_laws.specs.Activations.{FunctionSite, Activation, IsAmong, AreDistinct, AgreeButAt, words_of, IsMemoryOf}
use Rattle.bed_laws.specs.Described.{Describes}
use Rattle.bed_laws.specs.Keeps.{LoopHead, IsReturn, Reaches, Safe, Law}
use Rattle.bed_laws.specs.Spans.{Spans}
use Rattle.bed_laws.proofs.RunLaws.{link}
use Rattle.bed_laws.proofs.SequenceLaws.{among_front, among_back}
use Rattle.bed_laws.proofs.SlotLaws.{words_long, memory_rest}
use Rattle.bed_laws.proofs.StraightLaws.{straight, after_inst}
use Rattle.bed_laws.proofs.TestLaws.{one_block, one_span, no_heads}
use Rattle.bed_layout.specs.Keeping.{IsEntry, KeepsFunction}
use Rattle.bed_layout.specs.Bodies.{entry_block, own_variables, IsScoped, BodiesKeep}

-- ---- names among others

not_true : false ≡ true → ⊥
not_true z = cc

among_left : (xs ys : List Name) (x : List ℕ) → IsAmong xs x → IsAmong (xs ++ ys) x
among_left [] ys x is = absurd is
among_left (y ∷ xs) ys x (inl e) = inl e
among_left (y ∷ xs) ys x (inr is) = inr (among_left xs ys x is)

among_right : (xs ys : List Name) (x : List ℕ) → IsAmong ys x → IsAmong (xs ++ ys) x
among_right [] ys x is = is
among_right (y ∷ xs) ys x is = inr (among_right xs ys x is)

among_cases : (xs ys : List Name) (x : List ℕ) → IsAmong (xs ++ ys) x → IsAmong xs x ⊎ IsAmong ys x
among_cases [] ys x is = inr is
among_cases (y ∷ xs) ys x (inl e) = inl (inl e)
among_cases (y ∷ xs) ys x (inr is) = elim (among_cases xs ys x is) [ inl p ↦ inl (inr p) | inr p ↦ inr p ]

contains_among : (xs : List Name) (x : Name) → Contains xs x → IsAmong xs x.bytes
contains_among [] x is = let lt = is.1 in absurd (omega arith)
contains_among (y ∷ xs) x (zero, lt, e) = inl (ap (λ (z : Name). z.bytes) e)
contains_among (y ∷ xs) x (suc k, lt, e) = inr (contains_among xs x (k, omega arith, e))

among_or_not : (xs : List Name) (y : List ℕ) → IsAmong xs y ⊎ (IsAmong xs y → ⊥)
among_or_not [] y = inr (λ is. is)
among_or_not (x ∷ xs) y = elim (cases_Bool (bytes_eq x.bytes y)) [
  | inl e ↦ inl (inl (bytes_eq_is x.bytes y e))
  | inr e ↦ elim (among_or_not xs y) [
    | inl is ↦ inl (inr is)
    | inr out ↦ inr (λ q. not_first e out q)
  ]
]
  where
    not_first : bytes_eq x.bytes y ≡ false → (IsAmong xs y → ⊥) → IsAmong (x ∷ xs) y → ⊥
    not_first e out (inl same) = not_true (sym e ∙ subst (λ z. bytes_eq x.bytes z ≡ true) same (bytes_eq_same x.bytes))
    not_first e out (inr is) = out is

-- by the test
among_test : (xs : List Name) (y : List ℕ) → not (is_among xs y) ≡ true → IsAmong xs y → ⊥
among_test [] y t is = is
among_test (x ∷ xs) y t (inl same) = by_test (bytes_eq x.bytes y) (is_among xs y) (subst (λ z. bytes_eq x.bytes z ≡ true) same (bytes_eq_same x.bytes)) t
  where
    by_test : (a b : Bool) → a ≡ true → not (a || b) ≡ true → ⊥
    by_test true b e t = not_true t
    by_test false b e t = not_true e
among_test (x ∷ xs) y t (inr is) = among_test xs y (by_test (bytes_eq x.bytes y) (is_among xs y) t) is
  where
    by_test : (a b : Bool) → not (a || b) ≡ true → not b ≡ true
    by_test true b t = absurd (not_true t)
    by_test false b t = t

distinct_front : (xs ys : List Name) → AreDistinct (xs ++ ys) → AreDistinct xs
distinct_front [] ys d = tt
distinct_front (x ∷ xs) ys d = (λ is. d.0 (among_left xs ys x.bytes is), distinct_front xs ys d.1)

distinct_apart : (xs ys : List Name) (x : List ℕ) → AreDistinct (xs ++ ys) → IsAmong xs x → IsAmong ys x → ⊥
distinct_apart [] ys x d is more = is
distinct_apart (y ∷ xs) ys x d (inl e) more = d.0 (among_right xs ys y.bytes (subst (IsAmong ys) (sym e) more))
distinct_apart (y ∷ xs) ys x d (inr is) more = distinct_apart xs ys x d.1 is more

-- ---- names set to words

set_outside : (ν : Values) (xs : List Name) (vs : List ℕ) (y : List ℕ) → (IsAmong xs y → ⊥) → (set_words ν xs vs).words (Named y) ≡ ν.words (Named y)
set_outside ν [] vs y out = refl
set_outside ν (x ∷ xs) [] y out = refl
set_outside ν (x ∷ xs) (v ∷ vs) y out =
    set_outside (set_word ν (Named x.bytes) v) xs vs y (λ is. out (inr is)) ∙ set_other ν x.bytes y v (λ e. out (inl (sym e)))

set_lists : (ν : Values) (xs : List Name) (vs : List ℕ) (y : Variable) → (set_words ν xs vs).lists y ≡ ν.lists y
set_lists ν [] vs y = refl
set_lists ν (x ∷ xs) [] y = refl
set_lists ν (x ∷ xs) (v ∷ vs) y = set_lists (set_word ν (Named x.bytes) v) xs vs y

set_old : (ν : Values) (xs : List Name) (vs : List ℕ) (y : List ℕ) → (set_words ν xs vs).words (Old y) ≡ ν.words (Old y)
set_old ν [] vs y = refl
set_old ν (x ∷ xs) [] y = refl
set_old ν (x ∷ xs) (v ∷ vs) y = set_old (set_word ν (Named x.bytes) v) xs vs y

set_answer : (ν : Values) (xs : List Name) (vs : List ℕ) → (set_words ν xs vs).words Answer ≡ ν.words Answer
set_answer ν [] vs = refl
set_answer ν (x ∷ xs) [] = refl
set_answer ν (x ∷ xs) (v ∷ vs) = set_answer (set_word ν (Named x.bytes) v) xs vs

set_fresh : (ν : Values) (xs : List Name) (vs : List ℕ) (k : ℕ) → (set_words ν xs vs).words (Fresh k) ≡ ν.words (Fresh k)
set_fresh ν [] vs k = refl
set_fresh ν (x ∷ xs) [] k = refl
set_fresh ν (x ∷ xs) (v ∷ vs) k = set_fresh (set_word ν (Named x.bytes) v) xs vs k

set_hole : (ν : Values) (xs : List Name) (vs : List ℕ) → (set_words ν xs vs).words Hole ≡ ν.words Hole
set_hole ν [] vs = refl
set_hole ν (x ∷ xs) [] = refl
set_hole ν (x ∷ xs) (v ∷ vs) = set_hole (set_word ν (Named x.bytes) v) xs vs

set_untouched : (ν : Values) (xs : List Name) (vs : List ℕ) (x : Variable) → ((y : List ℕ) → IsAmong xs y → x ≢ Named y) → (set_words ν xs vs).words x ≡ ν.words x
set_untouched ν xs vs (Named y) out = set_outside ν xs vs y (λ is. out y is refl)
set_untouched ν xs vs (Old y) out = set_old ν xs vs y
set_untouched ν xs vs Answer out = set_answer ν xs vs
set_untouched ν xs vs (Fresh k) out = set_fresh ν xs vs k
set_untouched ν xs vs Hole out = set_hole ν xs vs

-- the words that are set are read back
set_words_of : (ν : Values) (xs : List Name) (vs : List ℕ) → AreDistinct xs → length xs ≡ length vs → words_of (set_words ν xs vs) xs ≡ vs
set_words_of ν [] [] d e = refl
set_words_of ν [] (v ∷ vs) d e = absurd (omega arith)
set_words_of ν (x ∷ xs) [] d e = absurd (omega arith)
set_words_of ν (x ∷ xs) (v ∷ vs) d e =
    ap₂ (λ a b. a ∷ b) (set_outside (set_word ν (Named x.bytes) v) xs vs x.bytes d.0 ∙ set_same ν x.bytes v) (set_words_of (set_word ν (Named x.bytes) v) xs vs d.1 (omega arith))

-- what is set doesn't hang on what was there
set_inside : (ν μ : Values) (xs : List Name) (vs : List ℕ) (y : List ℕ) → length xs ≡ length vs → (ν.words (Named y) ≡ μ.words (Named y)) ⊎ IsAmong xs y → (set_words ν xs vs).words (Named y) ≡ (set_words μ xs vs).words (Named y)
set_inside ν μ [] vs y e (inl p) = p
set_inside ν μ [] vs y e (inr is) = absurd is
set_inside ν μ (x ∷ xs) [] y e p = absurd (omega arith)
set_inside ν μ (x ∷ xs) (v ∷ vs) y e p = set_inside (set_word ν (Named x.bytes) v) (set_word μ (Named x.bytes) v) xs vs y (omega arith) (by_test (bytes_eq y x.bytes) refl p)
  where
    by_test : (t : Bool) → bytes_eq y x.bytes ≡ t → (ν.words (Named y) ≡ μ.words (Named y)) ⊎ IsAmong (x ∷ xs) y → ((set_word ν (Named x.bytes) v).words (Named y) ≡ (set_word μ (Named x.bytes) v).words (Named y)) ⊎ IsAmong xs y
    by_test true t q = inl (rw t refl)
    by_test false t (inl q) = inl (rw t q)
    by_test false t (inr (inl same)) = absurd (not_true (sym t ∙ subst (λ a. bytes_eq y a ≡ true) (sym same) (bytes_eq_same y)))
    by_test false t (inr (inr is)) = inr is

-- in two parts
set_append : (ν : Values) (xs ys : List Name) (vs us : List ℕ) → length xs ≡ length vs → set_words ν (xs ++ ys) (vs ++ us) ≡ set_words (set_words ν xs vs) ys us
set_append ν [] ys [] us e = refl
set_append ν [] ys (v ∷ vs) us e = absurd (omega arith)
set_append ν (x ∷ xs) ys [] us e = absurd (omega arith)
set_append ν (x ∷ xs) ys (v ∷ vs) us e = set_append (set_word ν (Named x.bytes) v) xs ys vs us (omega arith)

-- ---- the arguments as they were at entry

abbrev set_olds : Values → List Name → List ℕ → Values
set_olds ν [] vs = ν
set_olds ν (x ∷ xs) [] = ν
set_olds ν (x ∷ xs) (v ∷ vs) = set_olds (set_word ν (Old x.bytes) v) xs vs

old_named : (ν : Values) (xs : List Name) (vs : List ℕ) (y : List ℕ) → (set_olds ν xs vs).words (Named y) ≡ ν.words (Named y)
old_named ν [] vs y = refl
old_named ν (x ∷ xs) [] y = refl
old_named ν (x ∷ xs) (v ∷ vs) y = old_named (set_word ν (Old x.bytes) v) xs vs y

old_lists : (ν : Values) (xs : List Name) (vs : List ℕ) (y : Variable) → (set_olds ν xs vs).lists y ≡ ν.lists y
old_lists ν [] vs y = refl
old_lists ν (x ∷ xs) [] y = refl
old_lists ν (x ∷ xs) (v ∷ vs) y = old_lists (set_word ν (Old x.bytes) v) xs vs y

old_answer : (ν : Values) (xs : List Name) (vs : List ℕ) → (set_olds ν xs vs).words Answer ≡ ν.words Answer
old_answer ν [] vs = refl
old_answer ν (x ∷ xs) [] = refl
old_answer ν (x ∷ xs) (v ∷ vs) = old_answer (set_word ν (Old x.bytes) v) xs vs

old_fresh : (ν : Values) (xs : List Name) (vs : List ℕ) (k : ℕ) → (set_olds ν xs vs).words (Fresh k) ≡ ν.words (Fresh k)
old_fresh ν [] vs k = refl
old_fresh ν (x ∷ xs) [] k = refl
old_fresh ν (x ∷ xs) (v ∷ vs) k = old_fresh (set_word ν (Old x.bytes) v) xs vs k

old_hole : (ν : Values) (xs : List Name) (vs : List ℕ) → (set_olds ν xs vs).words Hole ≡ ν.words Hole
old_hole ν [] vs = refl
old_hole ν (x ∷ xs) [] = refl
old_hole ν (x ∷ xs) (v ∷ vs) = old_hole (set_word ν (Old x.bytes) v) xs vs

old_outside : (ν : Values) (xs : List Name) (vs : List ℕ) (y : List ℕ) → (IsAmong xs y → ⊥) → (set_olds ν xs vs).words (Old y) ≡ ν.words (Old y)
old_outside ν [] vs y out = refl
old_outside ν (x ∷ xs) [] y out = refl
old_outside ν (x ∷ xs) (v ∷ vs) y out =
    let ne : bytes_eq y x.bytes ≡ false = bytes_eq_not y x.bytes (λ e. out (inl (sym e))) in
    old_outside (set_word ν (Old x.bytes) v) xs vs y (λ is. out (inr is)) ∙ rw ne refl

old_at : (ν : Values) (xs : List Name) (vs : List ℕ) → AreDistinct xs → length xs ≡ length vs → map (λ (x : Name). (set_olds ν xs vs).words (Old x.bytes)) xs ≡ vs
old_at ν [] [] d e = refl
old_at ν [] (v ∷ vs) d e = absurd (omega arith)
old_at ν (x ∷ xs) [] d e = absurd (omega arith)
old_at ν (x ∷ xs) (v ∷ vs) d e =
    let here : (set_word ν (Old x.bytes) v).words (Old x.bytes) ≡ v = rw (bytes_eq_same x.bytes) refl in
    ap₂ (λ a b. a ∷ b) (old_outside (set_word ν (Old x.bytes) v) xs vs x.bytes d.0 ∙ here) (old_at (set_word ν (Old x.bytes) v) xs vs d.1 (omega arith))

-- parameters and old arguments are set to the same
both_set : (ν μ : Values) (xs : List Name) (vs : List ℕ) (y : List ℕ) → length xs ≡ length vs → (μ.words (Named y) ≡ ν.words (Old y)) ⊎ IsAmong xs y → (set_words μ xs vs).words (Named y) ≡ (set_olds ν xs vs).words (Old y)
both_set ν μ [] vs y e (inl p) = p
both_set ν μ [] vs y e (inr is) = absurd is
both_set ν μ (x ∷ xs) [] y e p = absurd (omega arith)
both_set ν μ (x ∷ xs) (v ∷ vs) y e p = both_set (set_word ν (Old x.bytes) v) (set_word μ (Named x.bytes) v) xs vs y (omega arith) (by_test (bytes_eq y x.bytes) refl p)
  where
    by_test : (t : Bool) → bytes_eq y x.bytes ≡ t → (μ.words (Named y) ≡ ν.words (Old y)) ⊎ IsAmong (x ∷ xs) y → ((set_word μ (Named x.bytes) v).words (Named y) ≡ (set_word ν (Old x.bytes) v).words (Old y)) ⊎ IsAmong xs y
    by_test true t q = inl (rw t refl)
    by_test false t (inl q) = inl (rw t q)
    by_test false t (inr (inl same)) = absurd (not_true (sym t ∙ subst (λ a. bytes_eq y a ≡ true) (sym same) (bytes_eq_same y)))
    by_test false t (inr (inr is)) = inr is

map_same : (f g : Name → ℕ) (xs : List Name) → ((x : Name) → f x ≡ g x) → map f xs ≡ map g xs
map_same f g [] e = refl
map_same f g (x ∷ xs) e = ap₂ (λ a b. a ∷ b) (e x) (map_same f g xs e)

words_at_long : (m : Memory) (x n : ℕ) → length (words_at m x n) ≡ n
words_at_long m x zero = refl
words_at_long m x (suc n) = ap suc (words_at_long m (wrap (x + 4)) n)

old_not_named : {x y : List ℕ} → Old x ≡ Named y → ⊥
old_not_named e = cc

fresh_not_named : {k : ℕ} {y : List ℕ} → Fresh k ≡ Named y → ⊥
fresh_not_named e = cc

hole_not_named : {y : List ℕ} → Hole ≡ Named y → ⊥
hole_not_named e = cc

named_same : {x y : List ℕ} → Named x ≡ Named y → x ≡ y
named_same e = cc

-- values that are the same for a signature's own variables
own_agree : (further : List Name) (ν μ : Values) → ((x : List ℕ) → (IsAmong further x → ⊥) → ν.words (Named x) ≡ μ.words (Named x)) → ν.words Answer ≡ μ.words Answer
    → ((k : ℕ) → ν.words (Fresh k) ≡ μ.words (Fresh k)) → ν.words Hole ≡ μ.words Hole → ((x : Variable) → ν.lists x ≡ μ.lists x)
    → Agree (own_variables further) ν μ
own_agree further ν μ named answer fresh hole lists = record { words = words; lists = λ x is. lists x }
  where
    words : (x : Variable) → IsTrue (own_variables further sort.Word x) → ν.words x ≡ μ.words x
    words (Named x) is = named x (among_test further x is)
    words (Old x) is = absurd (not_true is)
    words Answer is = answer
    words (Fresh k) is = fresh k
    words Hole is = hole

module _ (w : World) (c : FunctionSite) (further : List Name) (sc : IsScoped c further) where
  abbrev S : Signature
  S = c.signature

  distinct : AreDistinct (S.params ++ further)
  distinct = subst AreDistinct sc.locals sc.distinct

  arguments_long : (s : BlockState) → length S.params ≡ length (arguments_at S s.sp s.memory)
  arguments_long s = sym (words_at_long s.memory (wrap (s.sp + 4)) (length S.params))

  -- the activation of a state at the entry
  abbrev activation_at : Values → Memory → BlockState → Activation
  activation_at ν F s = record { sp = s.sp; back = s.rp; values = set_olds ν S.params (arguments_at S s.sp s.memory); rest = F }

  agree_all : {μ κ : Values} → AgreeButAt c.site.locals μ κ → AgreeButAt (S.params ++ further) μ κ
  agree_all a = record { words = λ x out. a.words x (λ y is. out y (subst (λ l. IsAmong l y) sc.locals is)); lists = a.lists }

  olds_same : (ν μ : Values) (s : BlockState) → AgreeButAt (S.params ++ further) μ (set_olds ν S.params (arguments_at S s.sp s.memory)) → map (λ (x : Name). μ.words (Old x.bytes)) S.params ≡ arguments_at S s.sp s.memory
  olds_same ν μ s agree =
      map_same _ _ S.params (λ x. agree.words (Old x.bytes) (λ y is e. old_not_named e))
      ∙ old_at ν S.params (arguments_at S s.sp s.memory) (distinct_front S.params further distinct) (arguments_long s)

  param_same : (ν μ : Values) (s : BlockState) (x : List ℕ) → (IsAmong further x → ⊥) → AgreeButAt (S.params ++ further) μ (set_olds ν S.params (arguments_at S s.sp s.memory))
      → (set_words μ S.params (arguments_at S s.sp s.memory)).words (Named x) ≡ (set_words ν S.params (arguments_at S s.sp s.memory)).words (Named x)
  param_same ν μ s x out agree = set_inside μ ν S.params (arguments_at S s.sp s.memory) x (arguments_long s) (elim (among_or_not S.params x) [
    | inl is ↦ inr is
    | inr none ↦ inl (agree.words (Named x) (λ y is e. both_out y is e none) ∙ old_named ν S.params (arguments_at S s.sp s.memory) x)
  ])
    where
      both_out : (y : List ℕ) → IsAmong (S.params ++ further) y → Named x ≡ Named y → (IsAmong S.params x → ⊥) → ⊥
      both_out y is e none = elim (among_cases S.params further y is) [
        | inl p ↦ none (subst (IsAmong S.params) (sym (named_same e)) p)
        | inr p ↦ out (subst (IsAmong further) (sym (named_same e)) p)
      ]

  -- at a return the postcondition is met under the values of the entry
  return_leaves : (ν : Values) (F : Memory) (e t : BlockState) → IsReturn w c (activation_at ν F e) t → LeavesAt w S ν e.sp (arguments_at S e.sp e.memory) t.rv t.memory F
  return_leaves ν F e t r =
      let args : List ℕ = arguments_at S e.sp e.memory in
      let m = r.state.memory in
      let agree = agree_all m.agree in
      let olds : List ℕ = map (λ (x : Name). r.values.words (Old x.bytes)) S.params in
      let here : Values = set_word (set_words r.values S.params olds) Answer t.rv in
      let there : Values = set_word (set_words ν S.params args) Answer t.rv in
      record {
        frame = m.frame;
        heap = r.heap;
        parts = (m.beside, m.joins, (F, m.parts, (empty, to_empty F, refl)));
        is_frame = (e.rp ∷ (words_of r.values c.site.locals ++ m.area), omega (arith, m.size, length-append (words_of r.values c.site.locals) m.area, words_long r.values c.site.locals), m.is_frame);
        post = holds_agree w (own_variables further) here there S.post r.heap (own_agree further here there
            (λ x out. ap (λ l. (set_words r.values S.params l).words (Named x)) (olds_same ν r.values e agree) ∙ param_same ν r.values e x out agree) refl
            (λ k. set_fresh r.values S.params olds k ∙ agree.words (Fresh k) (λ y is z. fresh_not_named z) ∙ old_fresh ν S.params args k ∙ sym (set_fresh ν S.params args k))
            (set_hole r.values S.params olds ∙ agree.words Hole (λ y is z. hole_not_named z) ∙ old_hole ν S.params args ∙ sym (set_hole ν S.params args))
            (λ y. set_lists r.values S.params olds y ∙ agree.lists y ∙ old_lists ν S.params args y ∙ sym (set_lists ν S.params args y))) sc.post r.post;
      }

  -- the state behind the first instruction
  module _ (ν : Values) (F : Memory) (e : BlockState) (en : EntersAt w S ν e.sp (arguments_at S e.sp e.memory) e.memory F) (rp : e.rp < 4294967296) (bytes : IsMemory e.memory) where
    abbrev args : List ℕ
    args = arguments_at S e.sp e.memory

    abbrev extras : List ℕ
    extras = take (length further) en.area

    abbrev area : List ℕ
    area = drop (length further) en.area

    abbrev olds_values : Values
    olds_values = set_olds ν S.params args

    abbrev entry_values : Values
    entry_values = set_words olds_values (S.params ++ further) (args ++ extras)

    low : word_place e.sp 0 ≡ e.sp
    low = let f = (four_bytes en.is_frame.0 e.sp en.back en.is_frame.3.holds).in_range in omega arith

    old_back : word_at e.memory e.sp ≡ Some en.back
    old_back = subst (λ x. word_at e.memory x ≡ Some en.back) low (load_slot e.sp (en.back ∷ (args ++ en.area)) 0 (joins_left en.parts.1) en.is_frame (omega arith))

    extras_long : length further ≡ length extras
    extras_long = let r = sc.room in sym (length-take-le (length further) en.area (omega (arith, en.area_count)))

    all_long : length (S.params ++ further) ≡ length (args ++ extras)
    all_long = length-append S.params further ∙ ap₂ (λ a b. a + b) (arguments_long e) extras_long ∙ sym (length-append args extras)

    entry_words : words_of entry_values (S.params ++ further) ++ area ≡ args ++ en.area
    entry_words = ap (λ l. l ++ area) (set_words_of olds_values (S.params ++ further) (args ++ extras) distinct all_long)
        ∙ append_assoc args extras area ∙ ap (λ l. args ++ l) (take-append-drop (length further) en.area)

    words_long_all : length (S.params ++ further) ≡ length c.site.locals
    words_long_all = ap length (sym sc.locals)

    entry_memory : IsMemoryOf c (activation_at ν F e) entry_values en.heap (put_word e.memory e.sp e.rp)
    entry_memory =
        let p = put_slot e.sp (en.back ∷ (args ++ en.area)) 0 e.rp en.parts.1 en.is_frame (omega arith) rp in
        let last : Joins en.parts.2.0 F empty = subst (λ z. Joins en.parts.2.0 F z) en.parts.2.2.2 en.parts.2.2.1 in
        record {
          bytes = put_word_memory e.memory e.sp e.rp en.back bytes old_back;
          frame = put_word en.frame e.sp e.rp;
          beside = en.parts.0;
          joins = subst (λ x. Joins (put_word e.memory x e.rp) (put_word en.frame x e.rp) en.parts.0) low p.0;
          parts = subst (λ r. Joins en.parts.0 en.heap r) (joins_empty last) en.parts.2.1;
          area = area;
          size = omega (arith, en.area_count, length-append S.params further, words_long_all, ap length (take-append-drop (length further) en.area), length-append extras area, extras_long);
          is_frame = subst (λ ls. AreWordsAt e.sp (e.rp ∷ (words_of entry_values ls ++ area)) (put_word en.frame e.sp e.rp)) (sym sc.locals)
              (subst (λ l. AreWordsAt e.sp (e.rp ∷ l) (put_word en.frame e.sp e.rp)) (sym entry_words) (subst (λ x. AreWordsAt e.sp (e.rp ∷ (args ++ en.area)) (put_word en.frame x e.rp)) low p.1));
          agree = record {
            words = λ x out. set_untouched olds_values (S.params ++ further) (args ++ extras) x (λ y is. out y (subst (λ l. IsAmong l y) (sym sc.locals) is));
            lists = λ x. set_lists olds_values (S.params ++ further) (args ++ extras) x;
          };
        }

    entry_param : (x : List ℕ) → (IsAmong further x → ⊥) → entry_values.words (Named x) ≡ (set_words olds_values S.params args).words (Named x)
    entry_param x out = ap (λ (κ : Values). κ.words (Named x)) (set_append olds_values S.params further args extras (arguments_long e)) ∙ set_outside (set_words olds_values S.params args) further extras x out

    entry_pre : Holds w entry_values en.heap S.pre
    entry_pre = holds_agree w (own_variables further) (set_words ν S.params args) entry_values S.pre en.heap (own_agree further (set_words ν S.params args) entry_values
        (λ x out. sym (entry_param x out ∙ sym (set_inside ν olds_values S.params args x (arguments_long e) (inl (sym (old_named ν S.params args x))))))
        (set_answer ν S.params args ∙ sym (old_answer ν S.params args) ∙ sym (set_answer olds_values (S.params ++ further) (args ++ extras)))
        (λ k. set_fresh ν S.params args k ∙ sym (old_fresh ν S.params args k) ∙ sym (set_fresh olds_values (S.params ++ further) (args ++ extras) k))
        (set_hole ν S.params args ∙ sym (old_hole ν S.params args) ∙ sym (set_hole olds_values (S.params ++ further) (args ++ extras)))
        (λ x. set_lists ν S.params args x ∙ sym (old_lists ν S.params args x) ∙ sym (set_lists olds_values (S.params ++ further) (args ++ extras) x))) sc.pre en.pre

    entry_olds : (x : List ℕ) → IsAmong S.params x → entry_values.words (Named x) ≡ entry_values.words (Old x)
    entry_olds x is =
        entry_param x (distinct_apart S.params further x distinct is)
        ∙ both_set ν olds_values S.params args x (arguments_long e) (inr is)
        ∙ sym (set_old olds_values (S.params ++ further) (args ++ extras) x)

    take_front : (xs ys : List Name) → take (length xs) (xs ++ ys) ≡ xs
    take_front [] ys = refl
    take_front (x ∷ xs) ys = ap (λ l. x ∷ l) (take_front xs ys)

    params_first : take (count_of_params (Some S)) c.site.locals ≡ S.params
    params_first = ap (take (length S.params)) sc.locals ∙ take_front S.params further

    -- the path at the entry describes it
    entry_describes : (s : BlockState) → s.sp ≡ e.sp → s.memory ≡ put_word e.memory e.sp e.rp → Describes w c (activation_at ν F e) (path_at_entry (Some S)) s
    entry_describes s sp mem = record {
      values0 = entry_values;
      heap0 = en.heap;
      starts = record { holds = entry_pre; entry = λ t x is. ap wrap (entry_olds x.bytes (contains_among S.params x (subst (λ l. Contains l x) params_first is))) };
      values = entry_values;
      heap = en.heap;
      leads = (refl, refl);
      state = record { sp = sp; memory = subst (IsMemoryOf c (activation_at ν F e) entry_values en.heap) (sym mem) entry_memory };
    }

  -- a function: its first block saves the return address, then comes the body
  module _ (places : ℕ → ℕ) (B : List Block) (hb : List LoopHead) (entry end next : ℕ) (less : entry + 1 ≤ end) (sb : Spans B hb (entry + 1) end)
      (kept : (a : Activation) (s : BlockState) → Reaches w c (entry + 1) (Some (path_at_entry (Some S))) a s → (n : ℕ) → Safe w c places B hb a (λ t. ⊥) n s) where
    span_entry : Spans (entry_block entry ∷ []) [] entry (entry + 1)
    span_entry = one_span (entry_block entry) [] (λ y is. no_heads y is)

    abbrev all : List Block
    all = entry_block entry ∷ B

    entry_safe : (ν : Values) (F : Memory) (s : BlockState) (begins : IsEntry entry s) (en : EntersAt w S ν s.sp (arguments_at S s.sp s.memory) s.memory F) (n : ℕ) → Safe w c places all hb (activation_at ν F s) (λ t. ⊥) n s
    entry_safe ν F s begins en n =
        let a : Activation = activation_at ν F s in
        let front = among_front (entry_block entry ∷ []) B [] hb entry (entry + 1) end (omega arith) less span_entry sb in
        let back = among_back (entry_block entry ∷ []) B [] hb entry (entry + 1) end (omega arith) less span_entry sb in
        let old = old_back ν F s en begins.return_address begins.bytes in
        let t : BlockState = record s { memory = put_word s.memory s.sp s.rp } in
        let rest : Includes s.memory F = includes_trans (joins_right en.parts.1) (includes_trans (joins_right en.parts.2.1) (joins_left en.parts.2.2.1)) in
        straight w c places all hb a (λ v. ⊥) (entry_block entry) (front.at_block entry (entry_block entry) (one_block (entry_block entry))) n [] (entry_block entry).insts s refl begins.label begins.next
        (λ x is l z. no_heads x (front.at_head entry (entry_block entry) (one_block (entry_block entry)) x is l)) (
          rest,
          t,
          rw old refl,
          (
            memory_rest (entry_memory ν F s en begins.return_address begins.bytes),
            λ m lt.
                link w c places a B hb all hb back (λ v. ⊥) (λ v. ⊥) m (λ k le v r. absurd r) (at_label (entry + 1) (after_inst t))
                (kept a (at_label (entry + 1) (after_inst t)) (refl, refl, entry_describes ν F s en begins.return_address begins.bytes (at_label (entry + 1) (after_inst t)) refl refl) m),
          ),
        )

    function_keeps : KeepsFunction w c places all hb entry
    function_keeps ν F s begins en = record {
      activation = activation_at ν F s;
      sp = refl;
      back = refl;
      rest = record { at = λ a v e. e };
      safe = entry_safe ν F s begins en;
      leaves = λ t r. return_leaves ν F s t r;
    }

-- no path leaves a body, and it keeps the first law
pub bodies_keep : BodiesKeep
bodies_keep w c further places B heads entry end next body sc less sb keep ends valid =
    let p : Path = path_at_entry (Some c.signature) in
    let law : Law w c places B heads (entry + 1) next ((body_part c.site body).owes p) p None =
    subst (λ o. Law w c places B heads (entry + 1) next ((body_part c.site body).owes p) p o) ends (keep p) in
    function_keeps w c further sc places B heads entry end next less sb (λ a s reach n. law.keeps valid tt a s reach n)
