-- Every edge of the graph is an edge of a chain, between nodes.
use Rattle.std.proofs.Common.{◌≡◌, ℕ, suc, ◌+◌, ◌-◌, ◌<◌, Bool, true, false, ◌&&◌, ◌==◌, not, if◌then◌else◌, List, [], ◌∷◌, ◌++◌, slice_get, Option, Some, None, refl, ap, sym, ◌∙◌, subst, arith}
use Rattle.std.specs.Cmp.{unsigned_Decides}
use Rattle.bed_lang.specs.declared.form.Form.{Form}
use Rattle.bed_lang.specs.declared.word.Word.{Word, Number}
use Rattle.bed_lang.specs.declared.logic.Pure.{Pure}
use Rattle.bed_lang.specs.declared.logic.Pure.TheVariants.{Equal, Unequal, Less, AtMost, Same, Member, NonMember, Code}
use Rattle.bed_lang.specs.Numbers.{wrap}
use Rattle.bed_lang.specs.Forms.{Part, word_form}
use Rattle.bed_lang.specs.Differences.{difference}
use Rattle.bed_lang.specs.SameFacts.{is_none, is_constant}
use Rattle.bed_forms.proofs.DifferenceLaws.{difference_constant-small, constant-small}
use Rattle.bed_forms.proofs.FormLaws.{form-equal}
use Rattle.bed_deriv.specs.declared.derivation.Edge.{Edge}
use Rattle.bed_deriv.specs.declared.derivation.Edge.TheVariants as edge
use Rattle.bed_deriv.specs.declared.state.SymState.{SymState}
use Rattle.bed_deriv.specs.Arguments.{numbered}
use Rattle.bed_deriv.specs.Fresh.{known_word}
use Rattle.bed_deriv.specs.Chains.{Leg, leg, one_more, one_less, forth, back, constant_above_0, up_by, down_by, exact_forth, exact_back, from_one_more, to_one_more, to_one_less, from_one_less}
use Rattle.bed_plain.specs.Chained.{has_form}
use Rattle.bed_plain.proofs.ChainLaws.{number_form}
use Rattle.bed_plain.proofs.WalkLaws.{FactLeg, EdgeLeg}
use Rattle.bed_chain.proofs.RebuiltLemmas.{named_form}
use Rattle.bed_chain.specs.Graph.{words_of, Link, link, link_if, fact_links, facts_links, number_leg, constant_links, named_word, least_links, node_links, nodes_links}

-- ---- a fact of each item

abbrev pub Each : {A : Type 0} → (A → Type 0) → List A → Type 0
Each P [] = Unit {0}
Each P (x ∷ xs) = P x × Each P xs

pub each_append : {A : Type 0} (P : A → Type 0) (xs ys : List A) → Each P xs → Each P ys → Each P (xs ++ ys)
each_append P [] ys h g = g
each_append P (x ∷ xs) ys h g = (h.0, each_append P xs ys h.1 g)

-- facts are numbered from 1
pub numbered_next : {A : Type 0} (xs : List A) (k : ℕ) → numbered xs (suc k) ≡ slice_get xs k
numbered_next {A} xs k = by (suc k == 0) (unsigned_Decides (suc k) 0).0
  where
    by : (b : Bool) → (b ≡ true → suc k ≡ 0) → (if b then None else slice_get xs (suc k - 1)) ≡ slice_get xs k
    by true zero' = absurd (let e = zero' refl in omega arith)
    by false zero' = ap (slice_get xs) (omega arith)

-- ---- legs between nodes

pub record IsForm (f : Form) : Type 0 where
  pub word : Word
  pub is : f ≡ word_form word

-- a word whose form is a constant has the form of that number
no_parts : (ps : List Part) → is_none ps ≡ true → ps ≡ []
no_parts [] e = refl
no_parts (p ∷ ps) e = absurd (cc)

pub constant_form : (w : Word) → is_constant (word_form w) ≡ true → word_form (Number (word_form w).constant) ≡ word_form w
constant_form w e =
    let small = constant-small w in
    let wraps : wrap (word_form w).constant ≡ (word_form w).constant = omega arith in
    form-equal (word_form (Number (word_form w).constant)) (word_form w)
    (ap (λ (f : Form). f.constant) (number_form (word_form w).constant) ∙ wraps)
    (ap (λ (f : Form). f.parts) (number_form (word_form w).constant) ∙ sym (no_parts (word_form w).parts e))

module _ (fs : List Form) where
  abbrev pub Has : Word → Type 0
  Has w = has_form (word_form w) fs ≡ true

  pub record IsGood (l : Leg) : Type 0 where
    pub from_form : IsForm l.from
    pub to_form : IsForm l.to
    pub from_in : has_form l.from fs ≡ true
    pub to_in : has_form l.to fs ≡ true
    pub up_small : l.up < 4294967296
    pub down_small : l.down < 4294967296

  abbrev pub IsGoodIf : Option Leg → Type 0
  IsGoodIf None = Unit {0}
  IsGoodIf (Some l) = IsGood l

  good : (a b : Word) (up down : ℕ) → Has a → Has b → up < 4294967296 → down < 4294967296 → IsGood (leg a b up down)
  good a b up down h g u d = record {
    from_form = record { word = a; is = refl };
    to_form = record { word = b; is = refl };
    from_in = h;
    to_in = g;
    up_small = u;
    down_small = d;
  }

  good_forth : (p : Pure) → Each Has (words_of p) → IsGoodIf (forth p)
  good_forth (Less a b) h = good a b 0 1 h.0 h.1.0 (omega arith) (omega arith)
  good_forth (AtMost a b) h = good a b 0 0 h.0 h.1.0 (omega arith) (omega arith)
  good_forth (Equal a b) h = good a b 0 0 h.0 h.1.0 (omega arith) (omega arith)
  good_forth (Unequal a b) h = tt
  good_forth (Same a b) h = tt
  good_forth (Member a b) h = tt
  good_forth (NonMember a b) h = tt
  good_forth (Code a b) h = tt

  good_back : (p : Pure) → Each Has (words_of p) → IsGoodIf (back p)
  good_back (Equal a b) h = good b a 0 0 h.1.0 h.0 (omega arith) (omega arith)
  good_back (Less a b) h = tt
  good_back (AtMost a b) h = tt
  good_back (Unequal a b) h = tt
  good_back (Same a b) h = tt
  good_back (Member a b) h = tt
  good_back (NonMember a b) h = tt
  good_back (Code a b) h = tt

  good_up : (a b : Word) → Has a → Has b → IsGoodIf (up_by a b (constant_above_0 (difference b a)))
  good_up a b h g = by (is_constant (difference b a) && not ((difference b a).constant == 0)) where
    by : (t : Bool) → IsGoodIf (up_by a b (if t then Some (difference b a).constant else None))
    by true = good a b 0 (difference b a).constant h g (omega arith) (difference_constant-small b a)
    by false = tt

  good_down : (a b : Word) → Has a → Has b → IsGoodIf (down_by a b (constant_above_0 (difference b a)))
  good_down a b h g = by (is_constant (difference b a) && not ((difference b a).constant == 0)) where
    by : (t : Bool) → IsGoodIf (down_by a b (if t then Some (difference b a).constant else None))
    by true = good b a (difference b a).constant 0 g h (difference_constant-small b a) (omega arith)
    by false = tt

  good_exact_forth : (p : Pure) → Each Has (words_of p) → IsGoodIf (exact_forth p)
  good_exact_forth (Less a b) h = good_up a b h.0 h.1.0
  good_exact_forth (AtMost a b) h = good_up a b h.0 h.1.0
  good_exact_forth (Equal a b) h = tt
  good_exact_forth (Unequal a b) h = tt
  good_exact_forth (Same a b) h = tt
  good_exact_forth (Member a b) h = tt
  good_exact_forth (NonMember a b) h = tt
  good_exact_forth (Code a b) h = tt

  good_exact_back : (p : Pure) → Each Has (words_of p) → IsGoodIf (exact_back p)
  good_exact_back (Less a b) h = good_down a b h.0 h.1.0
  good_exact_back (AtMost a b) h = good_down a b h.0 h.1.0
  good_exact_back (Equal a b) h = tt
  good_exact_back (Unequal a b) h = tt
  good_exact_back (Same a b) h = tt
  good_exact_back (Member a b) h = tt
  good_exact_back (NonMember a b) h = tt
  good_exact_back (Code a b) h = tt

  good_from_more : (p : Pure) → Each Has (words_of p) → IsGoodIf (from_one_more p)
  good_from_more (Less a b) h = good (one_more a) a 1 0 h.1.1.0 h.0 (omega arith) (omega arith)
  good_from_more (AtMost a b) h = tt
  good_from_more (Equal a b) h = tt
  good_from_more (Unequal a b) h = tt
  good_from_more (Same a b) h = tt
  good_from_more (Member a b) h = tt
  good_from_more (NonMember a b) h = tt
  good_from_more (Code a b) h = tt

  good_to_more : (p : Pure) → Each Has (words_of p) → IsGoodIf (to_one_more p)
  good_to_more (Less a b) h = good a (one_more a) 0 1 h.0 h.1.1.0 (omega arith) (omega arith)
  good_to_more (AtMost a b) h = tt
  good_to_more (Equal a b) h = tt
  good_to_more (Unequal a b) h = tt
  good_to_more (Same a b) h = tt
  good_to_more (Member a b) h = tt
  good_to_more (NonMember a b) h = tt
  good_to_more (Code a b) h = tt

  good_to_less : (p : Pure) → Each Has (words_of p) → IsGoodIf (to_one_less p)
  good_to_less (Less a b) h = good b (one_less b) 1 0 h.1.0 h.1.1.1.0 (omega arith) (omega arith)
  good_to_less (AtMost a b) h = tt
  good_to_less (Equal a b) h = tt
  good_to_less (Unequal a b) h = tt
  good_to_less (Same a b) h = tt
  good_to_less (Member a b) h = tt
  good_to_less (NonMember a b) h = tt
  good_to_less (Code a b) h = tt

  good_from_less : (p : Pure) → Each Has (words_of p) → IsGoodIf (from_one_less p)
  good_from_less (Less a b) h = good (one_less b) b 0 1 h.1.1.1.0 h.1.0 (omega arith) (omega arith)
  good_from_less (AtMost a b) h = tt
  good_from_less (Equal a b) h = tt
  good_from_less (Unequal a b) h = tt
  good_from_less (Same a b) h = tt
  good_from_less (Member a b) h = tt
  good_from_less (NonMember a b) h = tt
  good_from_less (Code a b) h = tt

  module _ (s : SymState) where
    -- an edge between nodes that a chain may take at its leg's start
    pub record IsLink (x : Link) : Type 0 where
      pub leg_is : EdgeLeg s x.leg.from x.edge x.leg
      pub ends : IsGood x.leg

    link_of : (e : Edge) (o : Option Leg) → IsGoodIf o → ((l : Leg) → o ≡ Some l → EdgeLeg s l.from e l) → Each IsLink (link_if e o)
    link_of e None g leads = tt
    link_of e (Some l) g leads = (record { leg_is = leads l refl; ends = g }, tt)

    module _ (i : ℕ) (p : Pure) (at : numbered s.facts i ≡ Some p) (h : Each Has (words_of p)) where
      by_fact : (f : Pure → Option Leg) (l : Leg) → f p ≡ Some l → FactLeg s i f l
      by_fact f l e = record { fact = p; at = at; is = e }

      pub fact_are_links : Each IsLink (fact_links i p)
      fact_are_links =
          each_append IsLink (link_if (edge.F i) (forth p)) _ (link_of (edge.F i) (forth p) (good_forth p h) (λ l e. by_fact forth l e))
          (each_append IsLink (link_if (edge.G i) (back p)) _ (link_of (edge.G i) (back p) (good_back p h) (λ l e. by_fact back l e))
          (each_append IsLink (link_if (edge.X i) (exact_forth p)) _ (link_of (edge.X i) (exact_forth p) (good_exact_forth p h) (λ l e. by_fact exact_forth l e))
          (each_append IsLink (link_if (edge.Y i) (exact_back p)) _ (link_of (edge.Y i) (exact_back p) (good_exact_back p h) (λ l e. by_fact exact_back l e))
          (each_append IsLink (link_if (edge.P i) (from_one_more p)) _ (link_of (edge.P i) (from_one_more p) (good_from_more p h) (λ l e. by_fact from_one_more l e))
          (each_append IsLink (link_if (edge.Q i) (to_one_more p)) _ (link_of (edge.Q i) (to_one_more p) (good_to_more p h) (λ l e. by_fact to_one_more l e))
          (each_append IsLink (link_if (edge.R i) (to_one_less p)) _ (link_of (edge.R i) (to_one_less p) (good_to_less p h) (λ l e. by_fact to_one_less l e))
          (link_of (edge.S i) (from_one_less p) (good_from_less p h) (λ l e. by_fact from_one_less l e))))))))

    pub facts_are_links : (ps : List Pure) (i : ℕ) → ((k : ℕ) (p : Pure) → slice_get ps k ≡ Some p → numbered s.facts (i + k) ≡ Some p)
        → Each (λ p. Each Has (words_of p)) ps → Each IsLink (facts_links i ps)
    facts_are_links [] i from h = tt
    facts_are_links (p ∷ ps) i from h =
        each_append IsLink (fact_links i p) (facts_links (i + 1) ps)
        (fact_are_links i p (subst (λ n. numbered s.facts n ≡ Some p) (omega arith) (from 0 p refl)) h.0)
        (facts_are_links ps (i + 1) (λ k q e. subst (λ n. numbered s.facts n ≡ Some q) (omega arith) (from (suc k) q e)) h.1)

    module _ (zero_in : Has (Number 0)) (top_in : Has (Number 4294967295)) where
      constant_are_links : (w : Word) → Has w → Each IsLink (constant_links (word_form w))
      constant_are_links w h = by (is_constant (word_form w)) refl where
        small : (word_form w).constant < 4294967296
        small = constant-small w

        zero_constant : is_constant (word_form (Number 0)) ≡ true
        zero_constant = subst (λ (f : Form). is_constant f ≡ true) (sym (number_form 0)) refl

        zero_small : (word_form (Number 0)).constant < 4294967296
        zero_small = constant-small (Number 0)

        by : (t : Bool) → is_constant (word_form w) ≡ t
            → Each IsLink (if t then link (edge.K 0) (number_leg (word_form w) 0) ∷ link (edge.K (word_form w).constant) (number_leg (word_form (Number 0)) (word_form w).constant) ∷ [] else [])
        by true t = (
          record {
            leg_is = (t, refl);
            ends = record { from_form = record { word = w; is = refl }; to_form = record { word = Number 0; is = refl }; from_in = h; to_in = zero_in; up_small = (let m = small in omega arith); down_small = omega arith };
          },
          (
            record {
              leg_is = (zero_constant, refl);
              ends = record {
                from_form = record { word = Number 0; is = refl };
                to_form = record { word = Number (word_form w).constant; is = refl };
                from_in = zero_in;
                to_in = constant_in t;
                up_small = (let m = zero_small in omega arith);
                down_small = omega arith;
              };
            },
            tt,
          ),
        ) where
          constant_in : is_constant (word_form w) ≡ true → has_form (word_form (Number (word_form w).constant)) fs ≡ true
          constant_in t = subst (λ f. has_form f fs ≡ true) (sym (constant_form w t)) h
        by false t = tt

      least_are_links : (w : Word) → Has w → Each IsLink (least_links s.next w)
      least_are_links w h = by (known_word s.next (named_word s.next w)) refl where
        by : (t : Bool) → known_word s.next (named_word s.next w) ≡ t
            → Each IsLink (if t then link (edge.Z (named_word s.next w)) (leg (Number 0) (named_word s.next w) 0 0) ∷ [] else [])
        by true known = (
          record {
            leg_is = (known, refl);
            ends = good (Number 0) (named_word s.next w) 0 0 zero_in (subst (λ f. has_form f fs ≡ true) (sym (named_form s.next w)) h) (omega arith) (omega arith);
          },
          tt,
        )
        by false known = tt

      node_are_links : (w : Word) → Has w → Each IsLink (node_links s.next w)
      node_are_links w h =
          each_append IsLink (least_links s.next w) _ (least_are_links w h) (
            record {
              leg_is = refl;
              ends = good w (Number 4294967295) 0 0 h top_in (omega arith) (omega arith);
            },
            constant_are_links w h,
          )

      pub nodes_are_links : (ws : List Word) → Each Has ws → Each IsLink (nodes_links s.next ws)
      nodes_are_links [] h = tt
      nodes_are_links (w ∷ ws) h =
          each_append IsLink (node_links s.next w) (nodes_links s.next ws) (node_are_links w h.0) (nodes_are_links ws h.1)
