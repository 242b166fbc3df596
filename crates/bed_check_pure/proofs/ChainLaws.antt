-- The rule chain is sound: each edge says that one value and a weight are at most another value and a weight.
use Rattle.std.proofs.Common.{◌≡◌, ℕ, ◌+◌, ◌-◌, ◌<◌, ◌≤◌, Bool, true, false, ◌&&◌, ◌==◌, not, nat_lt, if◌then◌else◌, List, [], ◌∷◌, Option, Some, None, refl, ap, sym, ◌∙◌, subst, arith, inl, inr}
use Rattle.std.proofs.lemmas.Bool.{and_parts, or_cases, ltb-true, leb-true}
use Rattle.bed_machine.specs.Memory.{Memory}
use Rattle.bed_lang.specs.declared.form.Form.{Form}
use Rattle.bed_lang.specs.declared.word.Word.{Word, Number}
use Rattle.bed_lang.specs.declared.logic.Pure.{Pure}
use Rattle.bed_lang.specs.declared.logic.Pure.TheVariants.{Equal, Less, AtMost}
use Rattle.bed_lang.specs.Numbers.{wrap}
use Rattle.bed_lang.specs.Values.{Values, value}
use Rattle.bed_lang.specs.Forms.{word_form, same_form}
use Rattle.bed_lang.specs.Coefficients.{form_value}
use Rattle.bed_lang.proofs.ValueLaws.{value-Number, value-Add, value-Sub, value-small}
use Rattle.bed_lang.specs.Differences.{difference}
use Rattle.bed_forms.proofs.FormValues.{form-value}
use Rattle.bed_forms.proofs.FormOrder.{IsNormal, form-normal}
use Rattle.bed_forms.proofs.SameForms.{normal-decides}
use Rattle.bed_forms.proofs.DifferenceLaws.{constant_form-value, constant_difference-value, difference_constant-small}
use Rattle.bed_sat.specs.Facts.{IsTrueFact}
use Rattle.bed_sat.specs.Assertions.{World}
use Rattle.bed_deriv.specs.declared.derivation.DArg.{DArg}
use Rattle.bed_deriv.specs.declared.derivation.DArg.TheVariants as given
use Rattle.bed_deriv.specs.declared.derivation.Edge.{Edge}
use Rattle.bed_deriv.specs.declared.derivation.Edge.TheVariants.{F, G, X, Y, P, Q, R, S, K, Z, H}
use Rattle.bed_deriv.specs.declared.state.Sequent.{Sequent}
use Rattle.bed_lang.specs.SameFacts.{is_constant}
use Rattle.bed_deriv.specs.Checks.{Goals, Needs, Leaves}
use Rattle.bed_deriv.specs.Chains.{Leg, leg, one_more, one_less, forth, back, constant_above_0, up_by, down_by, exact_forth, exact_back, from_one_more, to_one_more, to_one_less, from_one_less, of_fact, edge, legs, fact_start, goal_start, chain_start, proves, closes, chain}
use Rattle.bed_check_pure.specs.States.{StateHolds}
use Rattle.bed_check_pure.proofs.SameLaws.{empty_if_none}
use Rattle.bed_check_pure.proofs.CheckLaws.{IsSoundCheck}
use Rattle.bed_check_pure.proofs.RuleLaws.{same_number, numbered_fact, goal_true}

module _ (codes : ℕ → Option (List ℕ)) (labels : List ℕ → ℕ) (ν : Values) where
  abbrev Is : Pure → Type 0
  Is = IsTrueFact codes labels ν

  abbrev V : Word → ℕ
  V = value labels ν

  abbrev W : Form → ℕ
  W = form_value labels ν

  small : (a : Word) → V a < 4294967296
  small = value-small labels ν

  -- from one form to another, with the sums of the weights on the way
  pub record Reaches (from to : Form) (up down : ℕ) : Type 0 where
    pub from_normal : IsNormal from
    pub to_normal : IsNormal to
    pub at_most : W from + down ≤ W to + up

  abbrev pub Says : Leg → Type 0
  Says l = Reaches l.from l.to l.up l.down

  says : (a b : Word) (up down : ℕ) → V a + down ≤ V b + up → Says (leg a b up down)
  says a b up down e = record { from_normal = form-normal a; to_normal = form-normal b; at_most = rw (form-value labels ν a, form-value labels ν b) e }

  abbrev IsSaid : Option Leg → Type 0
  IsSaid None = Unit {0}
  IsSaid (Some l) = Says l

  -- where a fact is true its leg, if it has one, is said
  abbrev Tells : (Pure → Option Leg) → Type 0
  Tells of = (p : Pure) → Is p → IsSaid (of p)

  forth_tells : Tells forth
  forth_tells (Less a b) t = says a b 0 1 (omega arith)
  forth_tells (AtMost a b) t = says a b 0 0 (omega arith)
  forth_tells (Equal a b) t = says a b 0 0 (omega arith)
  forth_tells _ t = tt

  back_tells : Tells back
  back_tells (Equal a b) t = says b a 0 0 (omega arith)
  back_tells _ t = tt

  more : (a b : Word) → V a < V b → V (one_more a) ≡ V a + 1
  more a b t = let v = value-Add labels ν a (Number 1) in let o = value-Number labels ν 1 in let l = small b in omega arith

  less : (a b : Word) → V a < V b → V (one_less b) + 1 ≡ V b
  less a b t = let v = value-Sub labels ν b (Number 1) in let o = value-Number labels ν 1 in let l = small b in omega arith

  from_one_more_tells : Tells from_one_more
  from_one_more_tells (Less a b) t = let m = more a b t in says (one_more a) a 1 0 (omega arith)
  from_one_more_tells _ t = tt

  to_one_more_tells : Tells to_one_more
  to_one_more_tells (Less a b) t = let m = more a b t in says a (one_more a) 0 1 (omega arith)
  to_one_more_tells _ t = tt

  to_one_less_tells : Tells to_one_less
  to_one_less_tells (Less a b) t = let m = less a b t in says b (one_less b) 1 0 (omega arith)
  to_one_less_tells _ t = tt

  from_one_less_tells : Tells from_one_less
  from_one_less_tells (Less a b) t = let m = less a b t in says (one_less b) b 0 1 (omega arith)
  from_one_less_tells _ t = tt

  -- where a is at most b and b - a is a constant, b is a and the constant
  abbrev IsApart : Word → Word → Option ℕ → Type 0
  IsApart a b None = Unit {0}
  IsApart a b (Some c) = V b ≡ V a + c

  constant_apart : (a b : Word) → V a ≤ V b → IsApart a b (constant_above_0 (difference b a))
  constant_apart a b t = by (is_constant (difference b a) && not ((difference b a).constant == 0)) refl
    where
      by : (c : Bool) → (is_constant (difference b a) && not ((difference b a).constant == 0)) ≡ c
          → IsApart a b (if c then Some (difference b a).constant else None)
      by false e = tt
      by true e =
          let k = and_parts (is_constant (difference b a)) _ e in
          let d = constant_difference-value labels ν b a (empty_if_none (difference b a).parts k.0) in
          let l = small a in let m = small b in let n = difference_constant-small b a in omega arith

  up_said : (a b : Word) (c : Option ℕ) → IsApart a b c → IsSaid (up_by a b c)
  up_said a b None e = tt
  up_said a b (Some c) e = says a b 0 c (omega arith)

  down_said : (a b : Word) (c : Option ℕ) → IsApart a b c → IsSaid (down_by a b c)
  down_said a b None e = tt
  down_said a b (Some c) e = says b a c 0 (omega arith)

  exact_forth_tells : Tells exact_forth
  exact_forth_tells (Less a b) t = up_said a b (constant_above_0 (difference b a)) (constant_apart a b (omega arith))
  exact_forth_tells (AtMost a b) t = up_said a b (constant_above_0 (difference b a)) (constant_apart a b t)
  exact_forth_tells _ t = tt

  exact_back_tells : Tells exact_back
  exact_back_tells (Less a b) t = down_said a b (constant_above_0 (difference b a)) (constant_apart a b (omega arith))
  exact_back_tells (AtMost a b) t = down_said a b (constant_above_0 (difference b a)) (constant_apart a b t)
  exact_back_tells _ t = tt

  same_value : (f g : Form) → IsNormal f → IsNormal g → same_form f g ≡ true → W f ≡ W g
  same_value f g s t e = ap W ((normal-decides f g s t).0 e)

  -- a chain that ends at the next edge's start goes on along this edge
  further : (first node : Form) (up down : ℕ) (l : Leg) → Reaches first node up down → Says l → same_form l.from node ≡ true
      → Reaches first l.to (up + l.up) (down + l.down)
  further first node up down l far step same =
      let e = same_value l.from node step.from_normal far.to_normal same in
      let a = far.at_most in let b = step.at_most in
      record { from_normal = far.from_normal; to_normal = step.to_normal; at_most = omega arith }

  from_word : (f : Form) (a : Word) → IsNormal f → same_form f (word_form a) ≡ true → W f ≡ V a
  from_word f a s e = same_value f (word_form a) s (form-normal a) e ∙ form-value labels ν a

  -- the ends of a chain that proves a goal
  ends : (f g : Form) (a b : Word) (t : Bool) → IsNormal f → IsNormal g → (same_form f (word_form a) && same_form g (word_form b) && t) ≡ true
      → (W f ≡ V a) × (W g ≡ V b) × (t ≡ true)
  ends f g a b t m n e =
      let k = and_parts (same_form f (word_form a) && same_form g (word_form b)) t e in
      let j = and_parts (same_form f (word_form a)) (same_form g (word_form b)) k.0 in (from_word f a m j.0, from_word g b n j.1, k.1)

  proved : (p : Pure) (f g : Form) (up down : ℕ) → Reaches f g up down → proves p f g up down ≡ true → Is p
  proved (AtMost a b) f g up down far e =
      let k = ends f g a b _ far.from_normal far.to_normal e in
      let l = leb-true up down k.2 in let m = far.at_most in omega arith
  proved (Less a b) f g up down far e =
      let k = ends f g a b _ far.from_normal far.to_normal e in
      let l = ltb-true up down k.2 in let m = far.at_most in omega arith
  proved _ f g up down far e = absurd (cc)

  never : (f g : Form) (up down : ℕ) → Reaches f g up down → (same_form f g && nat_lt up down) ≡ true → ⊥
  never f g up down far e =
      let k = and_parts (same_form f g) (nat_lt up down) e in
      let same = same_value f g far.from_normal far.to_normal k.0 in
      let l = ltb-true up down k.1 in let m = far.at_most in omega arith

  pub closed : (p : Pure) (f g : Form) (up down : ℕ) → Reaches f g up down → closes p f g up down ≡ true → Is p
  closed p f g up down far e = elim (or_cases (proves p f g up down) (same_form f g && nat_lt up down) e) [
    | inl yes' ↦ proved p f g up down far yes'
    | inr no' ↦ absurd (never f g up down far no')
  ]

  to_number : (node : Form) (n : ℕ) → IsNormal node → is_constant node ≡ true → W node + (wrap n - node.constant) ≤ W (word_form (Number n)) + (node.constant - wrap n)
  to_number node n s c =
      let v = constant_form-value labels ν node s.0 (empty_if_none node.parts c) in
      let x = form-value labels ν (Number n) ∙ value-Number labels ν n in omega arith

  to_greatest : (node : Form) → W node + 0 ≤ W (word_form (Number 4294967295)) + 0
  to_greatest node = let x = form-value labels ν (Number 4294967295) ∙ value-Number labels ν 4294967295 in omega arith

  from_least : (e : Word) → V (Number 0) + 0 ≤ V e + 0
  from_least e = let o = value-Number labels ν 0 in omega arith

module _ (w : World) (ν : Values) (h : Memory) (q : Sequent) (n : ℕ) where
  abbrev Holds : Type 0
  Holds = StateHolds w ν h q.state

  abbrev IsSound : Goals → Type 0
  IsSound = IsSoundCheck w ν h q n

  abbrev Leads : Leg → Type 0
  Leads l = Holds → Says w.codes w.labels ν l

  by_fact : (i : ℕ) (of : Pure → Option Leg) (go_on : Leg → Goals) → Tells w.codes w.labels ν of
      → ((l : Leg) → Leads l → IsSound (go_on l)) → IsSound (of_fact q.state i of go_on)
  by_fact i of go_on tells sound = λ p at l is. sound l
      (λ holds. subst (IsSaid w.codes w.labels ν) is (tells p (numbered_fact w ν h q.state i p at holds)))

  edge_sound : (node : Form) → (Holds → IsNormal node) → (e : Edge) (go_on : Leg → Goals)
      → ((l : Leg) → Leads l → IsSound (go_on l)) → IsSound (edge q.state node e go_on)
  edge_sound node normal (F i) go_on sound = by_fact i forth go_on (forth_tells w.codes w.labels ν) sound
  edge_sound node normal (G i) go_on sound = by_fact i back go_on (back_tells w.codes w.labels ν) sound
  edge_sound node normal (X i) go_on sound = by_fact i exact_forth go_on (exact_forth_tells w.codes w.labels ν) sound
  edge_sound node normal (Y i) go_on sound = by_fact i exact_back go_on (exact_back_tells w.codes w.labels ν) sound
  edge_sound node normal (P i) go_on sound = by_fact i from_one_more go_on (from_one_more_tells w.codes w.labels ν) sound
  edge_sound node normal (Q i) go_on sound = by_fact i to_one_more go_on (to_one_more_tells w.codes w.labels ν) sound
  edge_sound node normal (R i) go_on sound = by_fact i to_one_less go_on (to_one_less_tells w.codes w.labels ν) sound
  edge_sound node normal (S i) go_on sound = by_fact i from_one_less go_on (from_one_less_tells w.codes w.labels ν) sound
  edge_sound node normal (K m) go_on sound = λ constant. sound _ (λ holds. record {
    from_normal = normal holds;
    to_normal = form-normal (Number m);
    at_most = to_number w.codes w.labels ν node m (normal holds) constant;
  })
  edge_sound node normal (Z e) go_on sound = sound _ (λ holds. says w.codes w.labels ν (Number 0) e 0 0 (from_least w.codes w.labels ν e))
  edge_sound node normal H go_on sound = sound _ (λ holds. record {
    from_normal = normal holds;
    to_normal = form-normal (Number 4294967295);
    at_most = to_greatest w.codes w.labels ν node;
  })

  abbrev IsFar : Form → Form → ℕ → ℕ → Type 0
  IsFar first node up down = Holds → Reaches w.codes w.labels ν first node up down

  legs_sound : (es : List DArg) (first node : Form) (up down : ℕ) (go_on : Form → ℕ → ℕ → Goals) → IsFar first node up down
      → ((last : Form) (u d : ℕ) → IsFar first last u d → IsSound (go_on last u d)) → IsSound (legs q.state es node up down go_on)
  legs_sound [] first node up down go_on far sound = sound node up down far
  legs_sound (given.Edge e ∷ es) first node up down go_on far sound =
      edge_sound node (λ holds. (far holds).to_normal) e
      (λ l. Needs 3 (same_form l.from node) (legs q.state es l.to (up + l.up) (down + l.down) go_on))
      (λ l leads same. legs_sound es first l.to (up + l.up) (down + l.down) go_on
      (λ holds. further w.codes w.labels ν first node up down l (far holds) (leads holds) same) sound)
  legs_sound (given.Number m ∷ es) first node up down go_on far sound = tt
  legs_sound (given.Arg a ∷ es) first node up down go_on far sound = tt
  legs_sound (given.Pure p ∷ es) first node up down go_on far sound = tt
  legs_sound (given.Name x ∷ es) first node up down go_on far sound = tt

  abbrev Starts : (Form → Goals) → Type 0
  Starts go_on = (first : Form) → (Holds → IsNormal first) → IsSound (go_on first)

  start_by_fact : (i : ℕ) (of : Pure → Option Leg) (go_on : Form → Goals) → Tells w.codes w.labels ν of → Starts go_on → IsSound (fact_start q.state i of go_on)
  start_by_fact i of go_on tells sound = by_fact i of (λ l. go_on l.from) tells (λ l leads. sound l.from (λ holds. (leads holds).from_normal))

  start_by_goal : (g : Pure) (go_on : Form → Goals) → Starts go_on → IsSound (goal_start g go_on)
  start_by_goal g go_on sound = λ a is. sound (word_form a) (λ holds. form-normal a)

  start_sound : (g : Pure) (es : List DArg) (go_on : Form → Goals) → Starts go_on → IsSound (chain_start q.state g es go_on)
  start_sound g [] go_on sound = start_by_goal g go_on sound
  start_sound g (given.Edge (F i) ∷ es) go_on sound = start_by_fact i forth go_on (forth_tells w.codes w.labels ν) sound
  start_sound g (given.Edge (G i) ∷ es) go_on sound = start_by_fact i back go_on (back_tells w.codes w.labels ν) sound
  start_sound g (given.Edge (X i) ∷ es) go_on sound = start_by_fact i exact_forth go_on (exact_forth_tells w.codes w.labels ν) sound
  start_sound g (given.Edge (Y i) ∷ es) go_on sound = start_by_fact i exact_back go_on (exact_back_tells w.codes w.labels ν) sound
  start_sound g (given.Edge (P i) ∷ es) go_on sound = start_by_fact i from_one_more go_on (from_one_more_tells w.codes w.labels ν) sound
  start_sound g (given.Edge (Q i) ∷ es) go_on sound = start_by_fact i to_one_more go_on (to_one_more_tells w.codes w.labels ν) sound
  start_sound g (given.Edge (R i) ∷ es) go_on sound = start_by_fact i to_one_less go_on (to_one_less_tells w.codes w.labels ν) sound
  start_sound g (given.Edge (S i) ∷ es) go_on sound = start_by_fact i from_one_less go_on (from_one_less_tells w.codes w.labels ν) sound
  start_sound g (given.Edge (K m) ∷ es) go_on sound = start_by_goal g go_on sound
  start_sound g (given.Edge (Z e) ∷ es) go_on sound = sound (word_form (Number 0)) (λ holds. form-normal (Number 0))
  start_sound g (given.Edge H ∷ es) go_on sound = start_by_goal g go_on sound
  start_sound g (given.Number m ∷ es) go_on sound = tt
  start_sound g (given.Arg a ∷ es) go_on sound = tt
  start_sound g (given.Pure p ∷ es) go_on sound = tt
  start_sound g (given.Name x ∷ es) go_on sound = tt

  none_moved : (f : Form) → IsNormal f → Reaches w.codes w.labels ν f f 0 0
  none_moved f s = record { from_normal = s; to_normal = s; at_most = omega arith }

  pub chain_sound : (args : List DArg) → IsSound (chain q.state (Some q.goal) args n)
  chain_sound args count known g goal =
      start_sound g args (λ first. legs q.state args first 0 0 (λ last up down. Needs 3 (closes g first last up down) (Leaves [])))
      (λ first normal. legs_sound args first first 0 0 (λ last up down. Needs 3 (closes g first last up down) (Leaves []))
      (λ holds. none_moved first (normal holds))
      (λ last up down far is. (
        sym (same_number n 0 count),
        λ above holds. goal_true w ν h q g goal (closed w.codes w.labels ν g first last up down (far holds) is),
      )))
