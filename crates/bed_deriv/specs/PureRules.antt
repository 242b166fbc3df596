-- Rules for a fact: each with its state s, its goal, its arguments and its number n of children. The goal is None where the node
-- stands for the rest of a condition, which no rule for a fact proves.
use Rattle.std.specs.Prelude.{ℕ, Bool, true, false, ◌&&◌, ◌||◌, ◌==◌, not, nat_lt, if◌then◌else◌, List, [], ◌∷◌, length, map, Option, Some, None}
use Rattle.bed_lang.specs.declared.word.Name.{Name}
use Rattle.bed_lang.specs.declared.word.Var.{Var}
use Rattle.bed_lang.specs.declared.word.Word.{Word, Number, Add}
use Rattle.bed_lang.specs.declared.form.Key.{Key}
use Rattle.bed_lang.specs.declared.form.Key.TheVariants as key
use Rattle.bed_lang.specs.declared.form.Form.{Form}
use Rattle.bed_lang.specs.declared.form.Piece.{Piece}
use Rattle.bed_lang.specs.declared.form.Piece.TheVariants.{Element, Sequence}
use Rattle.bed_lang.specs.declared.logic.Pure.{Pure}
use Rattle.bed_lang.specs.declared.logic.Pure.TheVariants.{Equal, Unequal, Less, AtMost, Same, Code}
use Rattle.bed_lang.specs.declared.logic.Atom.{Atom}
use Rattle.bed_lang.specs.declared.logic.Atom.TheVariants.{Cell, Byte, Block, Pred}
use Rattle.bed_lang.specs.declared.condition.Decls.{Decls}
use Rattle.bed_lang.specs.Numbers.{wrap}
use Rattle.bed_lang.specs.Same.{same_name, same_var}
use Rattle.bed_lang.specs.Keys.{same_key}
use Rattle.bed_lang.specs.Forms.{Part, word_form, seq_form, add_forms, times_form, same_form}
use Rattle.bed_lang.specs.Coefficients.{coefficient_in}
use Rattle.bed_lang.specs.Instances.{Instance}
use Rattle.bed_lang.specs.Differences.{difference}
use Rattle.bed_lang.specs.Lookups.{label_signature}
use Rattle.bed_deriv.specs.declared.derivation.DArg.{DArg}
use Rattle.bed_deriv.specs.declared.state.SymState.{SymState}
use Rattle.bed_lang.specs.SameFacts.{same_facts, negation, by_norm}
use Rattle.bed_deriv.specs.Arguments.{numbered, number_at, word_at, variable_at, fact_given, fact_at, atom_at, to_number, at_number, counts}
use Rattle.bed_forms.specs.Rebuilt.{form_word, pieces_seq}
use Rattle.bed_deriv.specs.Opening.{word_set, seq_set, replaced_fact, replaced_atom}
use Rattle.bed_deriv.specs.Checks.{Goals, Needs, Given, Fails, Leaves, with_fact, sequent}

-- hyp[i]: the goal is the same as fact i
abbrev pub hyp : SymState → Option Pure → List DArg → ℕ → Goals
hyp s goal args n =
    Needs 1 (counts args 1 n 0) (Given 2 (fact_at s args 0) (λ p. Given 3 goal (λ g. Needs 3 (same_facts g p) (Leaves []))))

-- norm: the goal holds by its normal form
abbrev pub norm : Option Pure → List DArg → ℕ → Goals
norm goal args n = Needs 1 (counts args 0 n 0) (Given 3 goal (λ g. Needs 3 (by_norm g) (Leaves [])))

-- comb[i1, c1, ..]: the goal is an equation whose difference is the sum of c times the differences of the equations i
abbrev pub pair_before : Option Pure → Option ℕ → Option (List (Pure × ℕ)) → Option (List (Pure × ℕ))
pair_before (Some p) (Some c) (Some more) = Some ((p, c) ∷ more)
pair_before _ _ _ = None

abbrev pub pairs_at : SymState → List DArg → Option (List (Pure × ℕ))
pairs_at s [] = Some []
pairs_at s (a ∷ []) = None
pairs_at s (a ∷ c ∷ more) = pair_before (at_number s.facts (to_number (Some a))) (to_number (Some c)) (pairs_at s more)

abbrev pub added_times : Pure → ℕ → Option Form → Option Form
added_times (Equal a b) c (Some f) = Some (add_forms (times_form c (difference a b)) f)
added_times _ c _ = None

abbrev pub combination : List (Pure × ℕ) → Option Form
combination [] = Some (record { constant = 0; parts = [] })
combination (p ∷ ps) = added_times p.0 p.1 (combination ps)

abbrev pub is_difference : Pure → Form → Bool
is_difference (Equal a b) f = same_form (difference a b) f
is_difference _ f = false

abbrev pub is_even : List DArg → Bool
is_even [] = true
is_even (a ∷ []) = false
is_even (a ∷ b ∷ more) = is_even more

abbrev pub comb : SymState → Option Pure → List DArg → ℕ → Goals
comb s goal args n =
    Needs 1 (is_even args && (n == 0)) (Given 2 (pairs_at s args) (λ ps.
    Given 3 goal (λ g. Given 3 (combination ps) (λ f. Needs 3 (is_difference g f) (Leaves [])))))

-- solve[i, v]: fact i is an equation with the coefficient 1 or 4294967295 at v, or `==` with one side just v and v not in the other.
-- Child: the goal, with v replaced in goal, facts and atoms; their words and sequences are written anew from their forms.
abbrev pub parts_but : Var → List Part → List Part
parts_but v [] = []
parts_but v (p ∷ ps) = if same_key p.0 (key.Var v) then parts_but v ps else p ∷ parts_but v ps

abbrev pub form_but : Var → Form → Form
form_but v f = record f { parts = parts_but v f.parts }

-- the value of v, where v with this coefficient and the rest of a form are together 0
abbrev pub solved_by : Var → Form → ℕ → Option Instance
solved_by v f c =
    if c == 1 then Some (word_set v (form_word (times_form 4294967295 (form_but v f))))
    else (if c == 4294967295 then Some (word_set v (form_word (form_but v f))) else None)

abbrev pub is_just : Var → List Piece → Bool
is_just v (Sequence x ∷ []) = same_var x v
is_just v _ = false

abbrev pub has_sequence : Var → List Piece → Bool
has_sequence v [] = false
has_sequence v (Element f ∷ ps) = has_sequence v ps
has_sequence v (Sequence x ∷ ps) = same_var x v || has_sequence v ps

abbrev pub solved_sequence : Var → List Piece → List Piece → Option Instance
solved_sequence v ps qs =
    if is_just v ps && not (has_sequence v qs) then Some (seq_set v (pieces_seq qs))
    else (if is_just v qs && not (has_sequence v ps) then Some (seq_set v (pieces_seq ps)) else None)

abbrev pub solution : Var → Pure → Option Instance
solution v (Equal a b) = solved_by v (difference a b) (coefficient_in (key.Var v) (difference a b).parts)
solution v (Same s t) = solved_sequence v (seq_form s) (seq_form t)
solution v _ = None

abbrev pub replaced_state : Instance → SymState → SymState
replaced_state σ s = record s { facts = map (replaced_fact σ) s.facts; atoms = map (replaced_atom σ) s.atoms }

abbrev pub solve : SymState → Option Pure → List DArg → ℕ → Goals
solve s goal args n =
    Needs 1 (counts args 2 n 1) (Given 2 (fact_at s args 0) (λ p. Given 2 (variable_at s args 1) (λ v.
    Given 3 goal (λ g. Given 3 (solution v p) (λ σ. Leaves (sequent (replaced_state σ s) (replaced_fact σ g) ∷ []))))))

-- order[0]: the goal is `a = b`, children `a <= b` and `b <= a`. order[1]: the goal is `a != b`, child `a < b`; order[2]: child `b < a`
abbrev pub order_number : Option ℕ → Option ℕ
order_number None = None
order_number (Some k) = if nat_lt k 3 then Some k else None

abbrev pub order_children : ℕ → ℕ
order_children k = if k == 0 then 2 else 1

abbrev pub one_order : ℕ → Word → Word → Pure
one_order k a b = if k == 1 then Less a b else Less b a

abbrev pub order_goals : SymState → ℕ → Pure → Goals
order_goals s k (Equal a b) = Needs 3 (k == 0) (Leaves (sequent s (AtMost a b) ∷ sequent s (AtMost b a) ∷ []))
order_goals s k (Unequal a b) = Needs 3 (not (k == 0)) (Leaves (sequent s (one_order k a b) ∷ []))
order_goals s k _ = Fails 3

abbrev pub order : SymState → Option Pure → List DArg → ℕ → Goals
order s goal args n =
    Needs 1 (length args == 1) (Given 2 (order_number (number_at args 0)) (λ k.
    Needs 1 (n == order_children k) (Given 3 goal (λ g. order_goals s k g))))

-- cut[φ]: children: φ; the goal with φ
abbrev pub cut : SymState → Option Pure → List DArg → ℕ → Goals
cut s goal args n =
    Needs 1 (counts args 1 n 2) (Given 2 (fact_given s args 0) (λ p.
    Given 3 goal (λ g. Leaves (sequent s p ∷ sequent (with_fact s p) g ∷ []))))

-- carry[e, c], c not 0: children: the goal with `e < e + c`; the goal with `e + c < e`
abbrev pub carry_goals : SymState → Option Pure → Word → ℕ → Goals
carry_goals s goal e c =
    Needs 3 (not (wrap c == 0)) (Given 3 goal (λ g.
    Leaves (sequent (with_fact s (Less e (Add e (Number c)))) g ∷ sequent (with_fact s (Less (Add e (Number c)) e)) g ∷ [])))

abbrev pub carry : SymState → Option Pure → List DArg → ℕ → Goals
carry s goal args n =
    Needs 1 (counts args 2 n 2) (Given 2 (word_at s args 0) (λ e. Given 2 (number_at args 1) (λ c. carry_goals s goal e c)))

-- split[φ], where φ has a negation: children: the goal with φ; with its negation
abbrev pub split_goals : SymState → Option Pure → Pure → Option Pure → Goals
split_goals s goal p other =
    Given 3 other (λ q. Given 3 goal (λ g. Leaves (sequent (with_fact s p) g ∷ sequent (with_fact s q) g ∷ [])))

abbrev pub split : SymState → Option Pure → List DArg → ℕ → Goals
split s goal args n =
    Needs 1 (counts args 1 n 2) (Given 2 (fact_given s args 0) (λ p. split_goals s goal p (negation p)))

-- absurd[i]: child: the negation of fact i
abbrev pub opposite_goal : SymState → Option Pure → Option Pure → Goals
opposite_goal s goal other = Given 3 other (λ q. Given 3 goal (λ g. Leaves (sequent s q ∷ [])))

abbrev pub contradiction : SymState → Option Pure → List DArg → ℕ → Goals
contradiction s goal args n =
    Needs 1 (counts args 1 n 1) (Given 2 (fact_at s args 0) (λ p. opposite_goal s goal (negation p)))

-- distinct[i, j]: i and j are two different cells or bytes; the goal is that their addresses differ
abbrev pub address : Atom → Option Word
address (Cell a v) = Some a
address (Byte a v) = Some a
address (Block a n) = None
address (Pred name args) = None

abbrev pub apart : Option Pure → Atom → Atom → Goals
apart goal x y =
    Given 3 (address x) (λ a. Given 3 (address y) (λ b. Given 3 goal (λ g. Needs 3 (same_facts g (Unequal a b)) (Leaves []))))

abbrev pub distinct_from : SymState → Option Pure → List DArg → ℕ → Atom → Goals
distinct_from s goal args i x =
    Given 2 (number_at args 1) (λ j. Given 2 (numbered s.atoms j) (λ y. Needs 3 (not (i == j)) (apart goal x y)))

abbrev pub distinct : SymState → Option Pure → List DArg → ℕ → Goals
distinct s goal args n =
    Needs 1 (counts args 2 n 0) (Given 2 (number_at args 0) (λ i. Given 2 (numbered s.atoms i) (λ x. distinct_from s goal args i x)))

-- bound[i]: atom i is a cell, and the goal is that its address is at most 4294967292; or a byte, and its content is at most 255
abbrev pub bound_of : Atom → Option Pure
bound_of (Cell a v) = Some (AtMost a (Number 4294967292))
bound_of (Byte a v) = Some (AtMost v (Number 255))
bound_of (Block a n) = None
bound_of (Pred name args) = None

abbrev pub bound_goals : Option Pure → Option Pure → Goals
bound_goals goal limit = Given 3 limit (λ p. Given 3 goal (λ g. Needs 3 (same_facts g p) (Leaves [])))

abbrev pub bound : SymState → Option Pure → List DArg → ℕ → Goals
bound s goal args n =
    Needs 1 (counts args 1 n 0) (Given 2 (atom_at s args 0) (λ x. bound_goals goal (bound_of x)))

-- label: the goal is `code(&f, N)`, and N is the name of f's declared signature
abbrev pub key_label : Key → Option Name
key_label (key.Label f) = Some f
key_label (key.Var x) = None

abbrev pub lone_label : List Part → Option Name
lone_label (p ∷ []) = if p.1 == 1 then key_label p.0 else None
lone_label _ = None

-- the label that a form just is
abbrev pub form_label : Form → Option Name
form_label f = if f.constant == 0 then lone_label f.parts else None

abbrev pub is_name : Option Name → Name → Bool
is_name None name = false
is_name (Some x) name = same_name x name

abbrev pub has_signature : Decls → Option Name → Name → Bool
has_signature d None name = false
has_signature d (Some f) name = is_name (label_signature d f.bytes) name

abbrev pub is_its_signature : Decls → Pure → Bool
is_its_signature d (Code a name) = has_signature d (form_label (word_form a)) name
is_its_signature d _ = false

abbrev pub label : Decls → Option Pure → List DArg → ℕ → Goals
label d goal args n = Needs 1 (counts args 0 n 0) (Given 3 goal (λ g. Needs 3 (is_its_signature d g) (Leaves [])))
