-- The nodes of a graph: one word for each form, each form at its place.
use Rattle.std.proofs.Common.{◌≡◌, ℕ, zero, suc, ◌+◌, ◌<◌, Bool, true, false, ◌&&◌, ◌||◌, ◌==◌, if◌then◌else◌, List, [], ◌∷◌, ◌++◌, length, slice_get, Some, refl, ap, sym, ◌∙◌, subst, arith, ◌⊎◌, inl, inr}
use Rattle.std.specs.Cmp.{unsigned_Decides}
use Rattle.std.specs.Cmp.Lexicographic.{pointwise}
use Rattle.std.proofs.lemmas.Bool.{and_parts, or_cases}
use Rattle.bed_lang.specs.declared.form.Key.{Key}
use Rattle.bed_lang.specs.declared.form.Form.{Form}
use Rattle.bed_lang.specs.declared.word.Word.{Word}
use Rattle.bed_lang.specs.declared.logic.Pure.{Pure}
use Rattle.bed_lang.specs.declared.logic.Pure.TheVariants.{Equal, Unequal, Less, AtMost, Same, Member, NonMember, Code}
use Rattle.bed_lang.specs.Keys.{same_key, bare_key}
use Rattle.bed_lang.specs.Forms.{Part, word_form, same_part, same_form}
use Rattle.bed_lang.specs.SameFacts.{is_none, is_constant}
use Rattle.bed_forms.proofs.SameForms.{same_key-decides, same_form-decides}
use Rattle.bed_deriv.specs.Chains.{one_more, one_less}
use Rattle.bed_plain.specs.Chained.{all_forms, has_form, different_forms}
use Rattle.bed_chain.specs.Tables.{AreNodes}
use Rattle.bed_chain.specs.Graph.{all_words, forms_of, with_node, nodes_of, place_from, place_of}

alike : (t u : Bool) → (t ≡ true → u ≡ true) → (u ≡ true → t ≡ true) → t ≡ u
alike true true f g = refl
alike true false f g = absurd (let e = f refl in cc)
alike false true f g = absurd (let e = g refl in cc)
alike false false f g = refl

-- ---- forms that are the same are the same as the same forms

keys_together : (a b k : Key) → same_key a b ≡ true → same_key a k ≡ same_key b k
keys_together a b k h =
    let e : bare_key a ≡ bare_key b = (same_key-decides a b).0 h in
    alike (same_key a k) (same_key b k)
    (λ t. (same_key-decides b k).1 (sym e ∙ (same_key-decides a k).0 t))
    (λ t. (same_key-decides a k).1 (e ∙ (same_key-decides b k).0 t))

part_together : (x y z : Part) → same_part x y ≡ true → same_part x z ≡ same_part y z
part_together x y z h =
    let p = and_parts (same_key x.0 y.0) (x.1 == y.1) h in
    ap (λ b. b && (x.1 == z.1)) (keys_together x.0 y.0 z.0 p.0) ∙ ap (λ n. same_key y.0 z.0 && (n == z.1)) ((unsigned_Decides x.1 y.1).0 p.1)

parts_together : (xs ys zs : List Part) → pointwise same_part xs ys ≡ true → pointwise same_part xs zs ≡ pointwise same_part ys zs
parts_together [] [] zs h = refl
parts_together [] (y ∷ ys) zs h = absurd (cc)
parts_together (x ∷ xs) [] zs h = absurd (cc)
parts_together (x ∷ xs) (y ∷ ys) [] h = refl
parts_together (x ∷ xs) (y ∷ ys) (z ∷ zs) h =
    let p = and_parts (same_part x y) (pointwise same_part xs ys) h in
    ap (λ b. b && pointwise same_part xs zs) (part_together x y z p.0) ∙ ap (λ b. same_part y z && b) (parts_together xs ys zs p.1)

pub form_together : (f g t : Form) → same_form f g ≡ true → same_form f t ≡ same_form g t
form_together f g t h =
    let p = and_parts (f.constant == g.constant) (pointwise same_part f.parts g.parts) h in
    ap (λ n. (n == t.constant) && pointwise same_part f.parts t.parts) ((unsigned_Decides f.constant g.constant).0 p.0)
    ∙ ap (λ b. (g.constant == t.constant) && b) (parts_together f.parts g.parts t.parts p.1)

none_together : (xs ys : List Part) → pointwise same_part xs ys ≡ true → is_none xs ≡ is_none ys
none_together [] [] h = refl
none_together [] (y ∷ ys) h = absurd (cc)
none_together (x ∷ xs) [] h = absurd (cc)
none_together (x ∷ xs) (y ∷ ys) h = refl

pub has_together : (fs : List Form) (f g : Form) → same_form f g ≡ true → has_form f fs ≡ has_form g fs
has_together [] f g h = refl
has_together (t ∷ fs) f g h = ap (λ b. b || has_form f fs) (form_together f g t h) ∙ ap (λ b. same_form g t || b) (has_together fs f g h)

pub together : (fs : List Form) (f g : Form) → same_form f g ≡ true → (has_form f fs ≡ has_form g fs) × (is_constant f ≡ is_constant g) × (f.constant ≡ g.constant)
together fs f g h =
    let p = and_parts (f.constant == g.constant) (pointwise same_part f.parts g.parts) h in
    (has_together fs f g h, none_together f.parts g.parts p.1, (unsigned_Decides f.constant g.constant).0 p.0)

pub place_together : (fs : List Form) (n : ℕ) (f g : Form) → same_form f g ≡ true → place_from n f fs ≡ place_from n g fs
place_together [] n f g h = refl
place_together (t ∷ fs) n f g h =
    ap (λ b. if b then n else place_from (n + 1) f fs) (form_together f g t h) ∙ ap (λ m. if same_form g t then n else m) (place_together fs (n + 1) f g h)

-- ---- a form that a node has stands at its place

pub record Placed (n : ℕ) (f : Form) (ws : List Word) : Type 0 where
  pub place : ℕ
  pub is : place_from n f (forms_of ws) ≡ n + place
  pub below : place < length ws
  pub word : Word
  pub at : slice_get ws place ≡ Some word
  pub same : same_form f (word_form word) ≡ true

pub placed : (ws : List Word) (n : ℕ) (f : Form) → has_form f (forms_of ws) ≡ true → Placed n f ws
placed [] n f h = absurd (cc)
placed (w ∷ ws) n f h = by (same_form f (word_form w)) refl h (placed ws (n + 1) f) where
  by : (b : Bool) → same_form f (word_form w) ≡ b → (b || has_form f (forms_of ws)) ≡ true → (has_form f (forms_of ws) ≡ true → Placed (n + 1) f ws) → Placed n f (w ∷ ws)
  by true same h more = record {
    place = 0;
    is = ap (λ b. if b then n else place_from (n + 1) f (forms_of ws)) same ∙ omega arith;
    below = omega arith;
    word = w;
    at = refl;
    same = same;
  }
  by false other h more =
      let p = more h in
      let is = p.is in
      let less = p.below in
      record {
        place = suc p.place;
        is = ap (λ b. if b then n else place_from (n + 1) f (forms_of ws)) other ∙ is ∙ omega arith;
        below = omega arith;
        word = p.word;
        at = p.at;
        same = p.same;
      }

-- two words whose forms have one place have one form
pub one_place : (ws : List Word) (a b : Word) → has_form (word_form a) (forms_of ws) ≡ true → has_form (word_form b) (forms_of ws) ≡ true
    → place_of (word_form a) (forms_of ws) ≡ place_of (word_form b) (forms_of ws) → word_form a ≡ word_form b
one_place ws a b has_a has_b e =
    let p = placed ws 0 (word_form a) has_a in
    let q = placed ws 0 (word_form b) has_b in
    let p_is = p.is in
    let q_is = q.is in
    let one : p.place ≡ q.place = omega arith in
    let there : slice_get ws q.place ≡ Some p.word = subst (λ n. slice_get ws n ≡ Some p.word) one p.at in
    let words : p.word ≡ q.word = (let here = q.at in cc) in
    (same_form-decides a p.word).0 p.same ∙ ap word_form words ∙ sym ((same_form-decides b q.word).0 q.same)

-- ---- each form keeps a node

has_last : (fs : List Form) (f g : Form) → same_form f g ≡ true → has_form f (fs ++ g ∷ []) ≡ true
has_last [] f g h = ap (λ b. b || false) h
has_last (t ∷ fs) f g h = by (same_form f t) (has_last fs f g h) where
  by : (b : Bool) → has_form f (fs ++ g ∷ []) ≡ true → (b || has_form f (fs ++ g ∷ [])) ≡ true
  by true more = refl
  by false more = more

has_more : (fs gs : List Form) (f : Form) → has_form f fs ≡ true → has_form f (fs ++ gs) ≡ true
has_more [] gs f h = absurd (cc)
has_more (t ∷ fs) gs f h = by (same_form f t) h (has_more fs gs f) where
  by : (b : Bool) → (b || has_form f fs) ≡ true → (has_form f fs ≡ true → has_form f (fs ++ gs) ≡ true) → (b || has_form f (fs ++ gs)) ≡ true
  by true h more = refl
  by false h more = more h

forms-append : (ws us : List Word) → forms_of (ws ++ us) ≡ forms_of ws ++ forms_of us
forms-append [] us = refl
forms-append (w ∷ ws) us = ap (λ fs. word_form w ∷ fs) (forms-append ws us)

form-self : (w : Word) → same_form (word_form w) (word_form w) ≡ true
form-self w = (same_form-decides w w).1 refl

node_stays : (w : Word) (ws : List Word) (f : Form) → has_form f (forms_of ws) ≡ true → has_form f (forms_of (with_node w ws)) ≡ true
node_stays w ws f h = by (has_form (word_form w) (forms_of ws)) where
  by : (b : Bool) → has_form f (forms_of (if b then ws else ws ++ w ∷ [])) ≡ true
  by true = h
  by false = subst (λ fs. has_form f fs ≡ true) (sym (forms-append ws (w ∷ []))) (has_more (forms_of ws) (word_form w ∷ []) f h)

node_comes : (w : Word) (ws : List Word) → has_form (word_form w) (forms_of (with_node w ws)) ≡ true
node_comes w ws = by (has_form (word_form w) (forms_of ws)) refl where
  by : (b : Bool) → has_form (word_form w) (forms_of ws) ≡ b → has_form (word_form w) (forms_of (if b then ws else ws ++ w ∷ [])) ≡ true
  by true h = h
  by false h = subst (λ fs. has_form (word_form w) fs ≡ true) (sym (forms-append ws (w ∷ []))) (has_last (forms_of ws) (word_form w) (word_form w) (form-self w))

pub kept : (us : List Word) (f : Form) → has_form f (forms_of us) ≡ true → has_form f (forms_of (nodes_of us)) ≡ true
kept [] f h = absurd (cc)
kept (u ∷ us) f h = elim (or_cases (same_form f (word_form u)) (has_form f (forms_of us)) h) [
  | inl same ↦ has_together (forms_of (nodes_of (u ∷ us))) f (word_form u) same ∙ node_comes u (nodes_of us)
  | inr more ↦ node_stays u (nodes_of us) f (kept us f more)
]

-- and no other form does
or_true : (b : Bool) → (b || true) ≡ true
or_true true = refl
or_true false = refl

has_parts : (fs : List Form) (f g : Form) → has_form f (fs ++ g ∷ []) ≡ true → (same_form f g || has_form f fs) ≡ true
has_parts [] f g h = h
has_parts (t ∷ fs) f g h = by (same_form f t) h (has_parts fs f g) where
  by : (b : Bool) → (b || has_form f (fs ++ g ∷ [])) ≡ true → (has_form f (fs ++ g ∷ []) ≡ true → (same_form f g || has_form f fs) ≡ true)
      → (same_form f g || (b || has_form f fs)) ≡ true
  by true h more = or_true (same_form f g)
  by false h more = more h

or_right : (b c d : Bool) → (c ≡ true → d ≡ true) → (b || c) ≡ true → (b || d) ≡ true
or_right true c d go h = refl
or_right false c d go h = go h

pub came_from : (us : List Word) (f : Form) → has_form f (forms_of (nodes_of us)) ≡ true → has_form f (forms_of us) ≡ true
came_from [] f h = h
came_from (u ∷ us) f h = by (has_form (word_form u) (forms_of (nodes_of us))) h (came_from us f) where
  by : (b : Bool) → has_form f (forms_of (if b then nodes_of us else nodes_of us ++ u ∷ [])) ≡ true → (has_form f (forms_of (nodes_of us)) ≡ true → has_form f (forms_of us) ≡ true)
      → (same_form f (word_form u) || has_form f (forms_of us)) ≡ true
  by true h more = ap (λ b. same_form f (word_form u) || b) (more h) ∙ or_true (same_form f (word_form u))
  by false h more =
      or_right (same_form f (word_form u)) (has_form f (forms_of (nodes_of us))) (has_form f (forms_of us)) more
      (has_parts (forms_of (nodes_of us)) f (word_form u) (subst (λ fs. has_form f fs ≡ true) (forms-append (nodes_of us) (u ∷ [])) h))

length_more : (ws : List Word) (u : Word) → length (ws ++ u ∷ []) ≡ 1 + length ws
length_more [] u = refl
length_more (w ∷ ws) u = let more = length_more ws u in omega arith

-- there are as many nodes as different forms
pub count_of_nodes : (us : List Word) → length (nodes_of us) ≡ different_forms (forms_of us)
count_of_nodes [] = refl
count_of_nodes (u ∷ us) =
    ap (λ b. length (if b then nodes_of us else nodes_of us ++ u ∷ []))
    (alike (has_form (word_form u) (forms_of (nodes_of us))) (has_form (word_form u) (forms_of us)) (came_from us (word_form u)) (kept us (word_form u)))
    ∙ by (has_form (word_form u) (forms_of us)) (count_of_nodes us) where
      by : (b : Bool) → length (nodes_of us) ≡ different_forms (forms_of us) → length (if b then nodes_of us else nodes_of us ++ u ∷ []) ≡ (if b then different_forms (forms_of us) else 1 + different_forms (forms_of us))
      by true count = count
      by false count = length_more (nodes_of us) u ∙ ap (λ n. 1 + n) count

-- ---- the words of facts have the forms of the definition

pub forms_are : (ps : List Pure) → forms_of (all_words ps) ≡ all_forms ps
forms_are [] = refl
forms_are (Equal a b ∷ ps) = ap (λ fs. word_form a ∷ word_form b ∷ fs) (forms_are ps)
forms_are (Unequal a b ∷ ps) = ap (λ fs. word_form a ∷ word_form b ∷ fs) (forms_are ps)
forms_are (Less a b ∷ ps) = ap (λ fs. word_form a ∷ word_form b ∷ word_form (one_more a) ∷ word_form (one_less b) ∷ fs) (forms_are ps)
forms_are (AtMost a b ∷ ps) = ap (λ fs. word_form a ∷ word_form b ∷ fs) (forms_are ps)
forms_are (Same s t ∷ ps) = forms_are ps
forms_are (Member a s ∷ ps) = forms_are ps
forms_are (NonMember a s ∷ ps) = forms_are ps
forms_are (Code a name ∷ ps) = forms_are ps

-- ---- each node stands at the place of its form

place_stays : (fs gs : List Form) (n : ℕ) (f : Form) → has_form f fs ≡ true → place_from n f (fs ++ gs) ≡ place_from n f fs
place_stays [] gs n f h = absurd (cc)
place_stays (t ∷ fs) gs n f h = by (same_form f t) h (place_stays fs gs (n + 1) f) where
  by : (b : Bool) → (b || has_form f fs) ≡ true → (has_form f fs ≡ true → place_from (n + 1) f (fs ++ gs) ≡ place_from (n + 1) f fs)
      → (if b then n else place_from (n + 1) f (fs ++ gs)) ≡ (if b then n else place_from (n + 1) f fs)
  by true h more = refl
  by false h more = more h

place_last : (fs : List Form) (n : ℕ) (f g : Form) → has_form f fs ≡ false → same_form f g ≡ true → place_from n f (fs ++ g ∷ []) ≡ n + length fs
place_last [] n f g h same = ap (λ b. if b then n else n + 1) same ∙ omega arith
place_last (t ∷ fs) n f g h same = by (same_form f t) h (place_last fs (n + 1) f g) where
  by : (b : Bool) → (b || has_form f fs) ≡ false → (has_form f fs ≡ false → same_form f g ≡ true → place_from (n + 1) f (fs ++ g ∷ []) ≡ (n + 1) + length fs)
      → (if b then n else place_from (n + 1) f (fs ++ g ∷ [])) ≡ n + suc (length fs)
  by true h more = absurd (cc)
  by false h more = let e = more h same in omega arith

got : (ws : List Word) (u : Word) (k : ℕ) (w : Word) → slice_get (ws ++ u ∷ []) k ≡ Some w → (slice_get ws k ≡ Some w) ⊎ ((k ≡ length ws) × (w ≡ u))
got [] u zero w e = inr (refl, cc)
got [] u (suc k) w e = absurd (cc)
got (x ∷ ws) u zero w e = inl e
got (x ∷ ws) u (suc k) w e = elim (got ws u k w e) [ inl at ↦ inl at | inr last ↦ inr (ap suc last.0, last.1) ]

pub has_own : (ws : List Word) (k : ℕ) (w : Word) → slice_get ws k ≡ Some w → has_form (word_form w) (forms_of ws) ≡ true
has_own [] k w e = absurd (cc)
has_own (x ∷ ws) zero w e = let same : x ≡ w = cc in subst (λ (z : Word). (same_form (word_form z) (word_form x) || has_form (word_form z) (forms_of ws)) ≡ true) same (ap (λ b. b || has_form (word_form x) (forms_of ws)) (form-self x))
has_own (x ∷ ws) (suc k) w e = or_that (same_form (word_form w) (word_form x)) (has_form (word_form w) (forms_of ws)) (has_own ws k w e) where
  or_that : (b c : Bool) → c ≡ true → (b || c) ≡ true
  or_that true c h = refl
  or_that false c h = h

forms_long : (ws : List Word) → length (forms_of ws) ≡ length ws
forms_long [] = refl
forms_long (w ∷ ws) = ap suc (forms_long ws)

pub nodes_are : (us : List Word) → AreNodes (nodes_of us)
nodes_are [] = λ k w e. absurd (cc)
nodes_are (u ∷ us) = by (has_form (word_form u) (forms_of (nodes_of us))) refl (nodes_are us) where
  ws : List Word
  ws = nodes_of us

  by : (b : Bool) → has_form (word_form u) (forms_of ws) ≡ b → AreNodes ws → AreNodes (if b then ws else ws ++ u ∷ [])
  by true h more = more
  by false h more = λ k w e. elim (got ws u k w e) [
    | inl at ↦
        ap (place_of (word_form w)) (forms-append ws (u ∷ [])) ∙ place_stays (forms_of ws) (word_form u ∷ []) 0 (word_form w) (has_own ws k w at) ∙ more k w at
    | inr last ↦
        let w_is = last.1 in
        subst (λ (z : Word). place_of (word_form z) (forms_of (ws ++ u ∷ [])) ≡ k) (sym w_is)
        (ap (place_of (word_form u)) (forms-append ws (u ∷ [])) ∙ place_last (forms_of ws) 0 (word_form u) (word_form u) h (form-self u) ∙ (let long = forms_long ws in let at = last.0 in omega arith))
  ]
