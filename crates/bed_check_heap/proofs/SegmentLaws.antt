-- List segments, by a predicate that is the prelude's, places aside: a segment is empty or a node before a segment, and two segments in
-- a row are one.
use Rattle.std.proofs.Common.{◌≡◌, ◌≢◌, ℕ, zero, suc, ◌+◌, ◌<◌, ◌⊎◌, IsTrue, Option, Some, List, [], ◌∷◌, ◌++◌, map, codes, inl, inr, refl, sym, ◌∙◌, ap, ap₂, subst, subst₂, arith}
use Rattle.std.specs.Prelude.{slice_get}
use Rattle.std.specs.Cmp.Lexicographic.{pointwise}
use Rattle.std.proofs.lemmas.Bool.{and_parts}
use Rattle.std.proofs.lemmas.List.{map-append}
use Rattle.bed_lang.specs.Numbers.{wrap}
use Rattle.bed_machine.specs.Memory.{Memory, empty}
use Rattle.bed_machine.proofs.WordLaws.{some_same}
use Rattle.bed_lang.specs.declared.word.Var.TheVariants as var
use Rattle.bed_lang.specs.declared.word.Word.{Number, Add}
use Rattle.bed_lang.specs.declared.word.Seq.{Cons}
use Rattle.bed_lang.specs.declared.logic.Assertion.{Assertion}
use Rattle.bed_lang.specs.declared.module.Predicate.{Predicate}
use Rattle.bed_lang.specs.Same.{same_name, same_bind, same_assertion, same_predicate}
use Rattle.bed_lang.specs.Values.{Values, Named, set_word, set_list, value, list_value}
use Rattle.bed_lang.specs.Prelude.{name, word, sequence, lseg, empty_segment, longer_segment}
use Rattle.bed_lang.proofs.ValueLaws.{value-Number, value-Var, value-Add, list_value-Var, list_value-Nil, list_value-Cons}
use Rattle.bed_lang.specs.Lookups.{predicate_named}
use Rattle.bed_sat.specs.Parts.{Joins}
use Rattle.bed_sat.specs.Cells.{IsCell}
use Rattle.bed_sat.specs.Assertions.{ArgValue, WordValue, ListValue, Meaning, blank, set_params, IsTrueWith, World, meaning}
use Rattle.bed_sat.proofs.PartLaws.{joins_comm, joins_assoc, joins_empty, to_empty}
use Rattle.bed_sat.proofs.SatLaws.{Within, meaning_more}
use Rattle.bed_sat.proofs.SameLaws.{true_same, params_same, case_same}
use Rattle.bed_check_heap.proofs.UnfoldLaws.{case_of}

-- a segment's arguments: its start, its end and its elements
abbrev pub segment_values : ℕ → ℕ → List ℕ → List ArgValue
segment_values a b xs = WordValue a ∷ WordValue b ∷ ListValue xs ∷ []

-- a node that is no null, and behind it a segment by M
pub record IsNode (M : Meaning) (a b : ℕ) (xs : List ℕ) (h : Memory) : Type 0 where
  pub content : ℕ
  pub next : ℕ
  pub tail : List ℕ
  pub first : Memory
  pub cells : Memory
  pub second : Memory
  pub others : Memory
  pub some : wrap a ≢ 0
  pub list : map wrap xs ≡ wrap content ∷ map wrap tail
  pub first_joins : Joins h first cells
  pub is_first : IsCell (wrap a) (wrap content) first
  pub second_joins : Joins cells second others
  pub is_second : IsCell (wrap (wrap a + 4)) (wrap next) second
  pub rest : M (codes "lseg") (segment_values (wrap next) (wrap b) (map wrap tail)) others

-- ---- the cases

nothing_first : {h nothing rest : Memory} → Joins h nothing rest → nothing ≡ empty → h ≡ rest
nothing_first {h = h} {rest = rest} j e = joins_empty (subst (Joins h rest) e (joins_comm j))

abbrev initial : ℕ → ℕ → List ℕ → Values
initial a b xs = set_params blank lseg.params (segment_values a b xs)

module _ (code_map : ℕ → Option (List ℕ)) (labels : List ℕ → ℕ) (M : Meaning) (a b : ℕ) (xs : List ℕ) where
  abbrev start : Values
  start = initial a b xs

  word_is : (ν : Values) (x : List ℕ) → value labels ν (word x) ≡ wrap (ν.words (Named x))
  word_is ν x = value-Var labels ν (var.Named (name x))

  list_is : (ν : Values) (x : List ℕ) → list_value labels ν (sequence x) ≡ map wrap (ν.lists (Named x))
  list_is ν x = list_value-Var labels ν (var.Named (name x))

  empty_means : (h : Memory) → IsTrueWith code_map labels M start empty_segment h → (wrap a ≡ wrap b) × (map wrap xs ≡ []) × (h ≡ empty)
  empty_means h (e0, m0, j0, ends, (e1, m1, j1, none, last)) = (
    sym (word_is start (codes "p")) ∙ ends.1 ∙ word_is start (codes "q"),
    sym (list_is start (codes "s")) ∙ none.1 ∙ list_value-Nil labels start,
    nothing_first j0 ends.0 ∙ nothing_first j1 none.0 ∙ last,
  )

  module _ (v n : ℕ) (t : List ℕ) where
    abbrev bound : Values
    bound = set_list (set_word (set_word start (Named (codes "v")) v) (Named (codes "n")) n) (Named (codes "t")) t

    at_p : value labels bound (word (codes "p")) ≡ wrap a
    at_p = word_is bound (codes "p")

    at_q : value labels bound (word (codes "q")) ≡ wrap b
    at_q = word_is bound (codes "q")

    at_v : value labels bound (word (codes "v")) ≡ wrap v
    at_v = word_is bound (codes "v")

    at_n : value labels bound (word (codes "n")) ≡ wrap n
    at_n = word_is bound (codes "n")

    at_t : list_value labels bound (sequence (codes "t")) ≡ map wrap t
    at_t = list_is bound (codes "t")

    at_s : list_value labels bound (sequence (codes "s")) ≡ map wrap xs
    at_s = list_is bound (codes "s")

    at_zero : value labels bound (Number 0) ≡ 0
    at_zero = value-Number labels bound 0

    at_next : value labels bound (Add (word (codes "p")) (Number 4)) ≡ wrap (wrap a + 4)
    at_next = value-Add labels bound (word (codes "p")) (Number 4) ∙ ap₂ (λ x y. wrap (x + y)) at_p (value-Number labels bound 4)

    at_cons : list_value labels bound (Cons (word (codes "v")) (sequence (codes "t"))) ≡ wrap v ∷ map wrap t
    at_cons = list_value-Cons labels bound (word (codes "v")) (sequence (codes "t")) ∙ ap₂ (λ x y. x ∷ y) at_v at_t

    at_rest : segment_values (value labels bound (word (codes "n"))) (value labels bound (word (codes "q"))) (list_value labels bound (sequence (codes "t")))
        ≡ segment_values (wrap n) (wrap b) (map wrap t)
    at_rest = ap₂ (λ x y. WordValue x ∷ y) at_n (ap₂ (λ x y. WordValue x ∷ ListValue y ∷ []) at_q at_t)

  longer_means : (h : Memory) → IsTrueWith code_map labels M start longer_segment h → IsNode M a b xs h
  longer_means h (v, (n, (t, (e0, m0, j0, some, (e1, m1, j1, list, (first, cells, jc, c1, (second, others, js, c2, (last, none, jl, seg, nothing)))))))) =
      let all = nothing_first j0 some.0 ∙ nothing_first j1 list.0 in
      let same = joins_empty (subst (Joins others last) nothing jl) in
      record {
        content = v;
        next = n;
        tail = t;
        first = first;
        cells = cells;
        second = second;
        others = others;
        some = λ e. some.1 (at_p v n t ∙ e ∙ sym (at_zero v n t));
        list = sym (at_s v n t) ∙ list.1 ∙ at_cons v n t;
        first_joins = subst (λ m. Joins m first cells) (sym all) jc;
        is_first = subst₂ (λ x y. IsCell x y first) (at_p v n t) (at_v v n t) c1;
        second_joins = js;
        is_second = subst₂ (λ x y. IsCell x y second) (at_next v n t) (at_n v n t) c2;
        rest = subst₂ (λ vs m. M (codes "lseg") vs m) (at_rest v n t) (sym same) seg;
      }

  means_longer : (h : Memory) → IsNode M a b xs h → IsTrueWith code_map labels M start longer_segment h
  means_longer h k =
      let v = k.content in
      let n = k.next in
      let t = k.tail in (
        v,
        (
          n,
          (
            t,
            (
              empty,
              h,
              joins_comm (to_empty h),
              (refl, λ e. k.some (sym (at_p v n t) ∙ e ∙ at_zero v n t)),
              (
                empty,
                h,
                joins_comm (to_empty h),
                (refl, at_s v n t ∙ k.list ∙ sym (at_cons v n t)),
                (
                  k.first,
                  k.cells,
                  k.first_joins,
                  subst₂ (λ x y. IsCell x y k.first) (sym (at_p v n t)) (sym (at_v v n t)) k.is_first,
                  (
                    k.second,
                    k.others,
                    k.second_joins,
                    subst₂ (λ x y. IsCell x y k.second) (sym (at_next v n t)) (sym (at_n v n t)) k.is_second,
                    (k.others, empty, to_empty k.others, subst (λ vs. M (codes "lseg") vs k.others) (sym (at_rest v n t)) k.rest, refl),
                  ),
                ),
              ),
            ),
          ),
        ),
      )

-- ---- segments

-- what is true at a depth is true at every greater one
pub deeper : (w : World) (n k : ℕ) → Within (meaning w k) (meaning w (n + k))
deeper w zero k p vs h is = let e : k ≡ 0 + k = omega arith in subst (λ j. meaning w j p vs h) e is
deeper w (suc n) k p vs h is = let e : suc (n + k) ≡ suc n + k = omega arith in subst (λ j. meaning w j p vs h) e (meaning_more w (n + k) p vs h (deeper w n k p vs h is))

-- the second case of a predicate that is the prelude's
longer_case : (As : List Assertion) → IsTrue (pointwise same_assertion As lseg.cases) → (A : Assertion) × (slice_get As 1 ≡ Some A) × IsTrue (same_assertion A longer_segment)
longer_case [] is = absurd cc
longer_case (C ∷ []) is = let k = and_parts (same_assertion C empty_segment) _ is in absurd (let e = k.1 in cc)
longer_case (C ∷ D ∷ more) is = (D, refl, (and_parts (same_assertion D longer_segment) _ (and_parts (same_assertion C empty_segment) _ is).1).0)

no_items : (xs : List ℕ) → map wrap xs ≡ [] → xs ≡ []
no_items [] e = refl
no_items (x ∷ xs) e = absurd cc

module _ (w : World) (p : Predicate) (declared : predicate_named w.decls (codes "lseg") ≡ Some p) (is_prelude : IsTrue (same_predicate p lseg)) where
  abbrev Seg : ℕ → ℕ → ℕ → List ℕ → Memory → Type 0
  Seg depth a b xs h = meaning w depth (codes "lseg") (segment_values a b xs) h

  same_params : IsTrue (pointwise same_bind p.params lseg.params)
  same_params = (and_parts (pointwise same_bind p.params lseg.params) _ (and_parts (same_name p.name lseg.name) _ is_prelude).1).0

  same_cases : IsTrue (pointwise same_assertion p.cases lseg.cases)
  same_cases = (and_parts (pointwise same_bind p.params lseg.params) _ (and_parts (same_name p.name lseg.name) _ is_prelude).1).1

  by_number : (M : Meaning) (a b : ℕ) (xs : List ℕ) (h : Memory) (number : ℕ) (B : Assertion) → slice_get lseg.cases number ≡ Some B
      → IsTrueWith w.codes w.labels M (initial a b xs) B h → (wrap a ≡ wrap b) × (map wrap xs ≡ []) × (h ≡ empty) ⊎ IsNode M a b xs h
  by_number M a b xs h zero B at is =
      inl (empty_means w.codes w.labels M a b xs h (subst (λ C. IsTrueWith w.codes w.labels M (initial a b xs) C h) (sym (some_same at)) is))
  by_number M a b xs h (suc zero) B at is =
      inr (longer_means w.codes w.labels M a b xs h (subst (λ C. IsTrueWith w.codes w.labels M (initial a b xs) C h) (sym (some_same at)) is))
  by_number M a b xs h (suc (suc n)) B at is = absurd cc

  -- a segment is nothing, or a node before a segment of less depth
  segment_cases : (k a b : ℕ) (xs : List ℕ) (h : Memory) → Seg (suc k) a b xs h
      → (wrap a ≡ wrap b) × (map wrap xs ≡ []) × (h ≡ empty) ⊎ IsNode (meaning w k) a b xs h
  segment_cases k a b xs h is =
      let c = case_of w (suc k) (codes "lseg") p (segment_values a b xs) h declared is in
      let (B, at, same) = case_same p.cases lseg.cases c.number c.case same_cases c.at in
      let given = (true_same w.codes w.labels (meaning w c.less) (set_params blank p.params (segment_values a b xs)) c.case B h same).0 c.holds in
      let less : c.less ≡ k = let e = c.deeper in omega arith in
      by_number (meaning w k) a b xs h c.number B at
      (subst₂ (λ m ν. IsTrueWith w.codes w.labels (meaning w m) ν B h) less (params_same blank p.params lseg.params (segment_values a b xs) same_params) given)

  -- a node before a segment is a segment
  node_segment : (k a b : ℕ) (xs : List ℕ) (h : Memory) → IsNode (meaning w k) a b xs h → Seg (suc k) a b xs h
  node_segment k a b xs h node =
      let (A, at, same) = longer_case p.cases same_cases in
      let M = meaning w k in
      let given = means_longer w.codes w.labels M a b xs h node in (
        p,
        declared,
        1,
        A,
        at,
        (true_same w.codes w.labels M _ A longer_segment h same).1
            (subst (λ ν. IsTrueWith w.codes w.labels M ν longer_segment h) (sym (params_same blank p.params lseg.params (segment_values a b xs) same_params)) given),
      )

  -- two segments in a row are one
  pub segments_append : (k j a b c : ℕ) (xs ys : List ℕ) (h h1 h2 : Memory) → a < 4294967296 → b < 4294967296 → c < 4294967296 → map wrap ys ≡ ys
      → Joins h h1 h2 → Seg k a b xs h1 → Seg j b c ys h2 → Seg (k + j) a c (xs ++ ys) h
  segments_append zero j a b c xs ys h h1 h2 la lb lc small joins one two = absurd one
  segments_append (suc k) j a b c xs ys h h1 h2 la lb lc small joins one two = elim (segment_cases k a b xs h1 one) [
    | inl nothing ↦
        (
        let same : b ≡ a = omega (arith, nothing.0) in
        let none : ys ≡ xs ++ ys = ap (λ zs. zs ++ ys) (sym (no_items xs nothing.1)) in
        let all = nothing_first joins nothing.2 in
        subst (Seg (suc k + j) a c (xs ++ ys)) (sym all) (subst₂ (λ p zs. Seg (suc k + j) p c zs h2) same none (deeper w (suc k) j _ _ h2 two))
        )
    | inr node ↦
        (
        let k1 = joins_assoc (joins_comm joins) (joins_comm node.first_joins) in
        let k2 = joins_assoc k1.2 (joins_comm node.second_joins) in
        let end : wrap b ≡ b = omega arith in
        let last : c ≡ wrap c = omega arith in
        let next_small : wrap node.next < 4294967296 = omega arith in
        let items : map wrap node.tail ++ ys ≡ map wrap (node.tail ++ ys) = ap (λ zs. map wrap node.tail ++ zs) (sym small) ∙ sym (map-append wrap node.tail ys) in
        let more = segments_append k j (wrap node.next) b c (map wrap node.tail) ys k2.0 node.others h2 next_small lb lc small (joins_comm k2.2)
        (subst (λ e. Seg k (wrap node.next) e (map wrap node.tail) node.others) end node.rest) two in
        let depth : suc (k + j) ≡ suc k + j = omega arith in
        subst (λ d. Seg d a c (xs ++ ys) h) depth (node_segment (k + j) a c (xs ++ ys) h (record {
          content = node.content;
          next = node.next;
          tail = node.tail ++ ys;
          first = node.first;
          cells = k1.0;
          second = node.second;
          others = k2.0;
          some = node.some;
          list = map-append wrap xs ys ∙ ap₂ (λ us vs. us ++ vs) node.list small ∙ ap (λ zs. wrap node.content ∷ zs) items;
          first_joins = joins_comm k1.1;
          is_first = node.is_first;
          second_joins = joins_comm k2.1;
          is_second = node.is_second;
          rest = subst₂ (λ e zs. Seg (k + j) (wrap node.next) e zs k2.0) last items more;
        }))
        )
  ]
