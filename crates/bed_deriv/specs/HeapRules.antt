-- Rules for the rest of a condition that change its state: each with its state s, its arguments and its number n of children. An
-- atom that is taken closes up the list; a new one goes to its end.
use Rattle.std.specs.Prelude.{ℕ, ◌+◌, ◌-◌, Bool, false, ◌&&◌, ◌==◌, not, nat_le, if◌then◌else◌, List, [], ◌∷◌, ◌++◌, length, take, drop, Option, Some, None, bytes_eq}
use Rattle.bed_lang.specs.declared.word.Name.{Name}
use Rattle.bed_lang.specs.declared.word.Var.TheVariants as var
use Rattle.bed_lang.specs.declared.word.Word.{Word, Number, Var as WordVar, Add, Sub, Times}
use Rattle.bed_lang.specs.declared.word.Seq.{Seq, App}
use Rattle.bed_lang.specs.declared.logic.Arg.{Arg}
use Rattle.bed_lang.specs.declared.logic.Arg.TheVariants as arg
use Rattle.bed_lang.specs.declared.logic.Pure.{Pure}
use Rattle.bed_lang.specs.declared.logic.Pure.TheVariants.{Equal, AtMost}
use Rattle.bed_lang.specs.declared.logic.Atom.{Atom}
use Rattle.bed_lang.specs.declared.logic.Atom.TheVariants.{Cell, Byte, Block, Pred}
use Rattle.bed_lang.specs.declared.logic.Bind.{Bind}
use Rattle.bed_lang.specs.declared.logic.Assertion.{Assertion}
use Rattle.bed_lang.specs.declared.module.Predicate.{Predicate}
use Rattle.bed_lang.specs.declared.condition.Decls.{Decls}
use Rattle.bed_lang.specs.Same.{same_predicate}
use Rattle.bed_lang.specs.Prelude.{lseg}
use Rattle.bed_lang.specs.Instances.{terms_with}
use Rattle.bed_lang.specs.Lookups.{predicate_named}
use Rattle.bed_deriv.specs.declared.derivation.DArg.{DArg}
use Rattle.bed_deriv.specs.declared.state.SymState.{SymState}
use Rattle.bed_lang.specs.SameFacts.{negation}
use Rattle.bed_deriv.specs.Arguments.{numbered, at_number, number_at, name_at, word_at, fact_given, to_values, counts}
use Rattle.bed_deriv.specs.Opening.{alone, opened_anew}
use Rattle.bed_deriv.specs.Matches.{count_of_goals, count_of_atoms, chosen, all_different, atoms_left, match_goals}
use Rattle.bed_deriv.specs.Checks.{Step, Needs, Given, Fails, leaves, with_fact}

-- ---- atoms of a state

-- a list without the item at a place, from 0
abbrev pub without : {A : Type 0} → ℕ → List A → List A
without n xs = take n xs ++ drop (n + 1) xs

-- without the atom of a number, and without those of two different numbers
abbrev pub taken : SymState → ℕ → SymState
taken s i = record s { atoms = without (i - 1) s.atoms }

abbrev pub both_taken : SymState → ℕ → ℕ → SymState
both_taken s i j = if nat_le i j then taken (taken s j) i else taken (taken s i) j

abbrev pub with_atom : SymState → Atom → SymState
with_atom s a = record s { atoms = s.atoms ++ a ∷ [] }

-- ---- facts

-- claim[φ]: children: φ; the rest with φ
abbrev pub claim : SymState → List DArg → ℕ → Step
claim s args n = Needs 1 (counts args 1 n 2) (Given 2 (fact_given s args 0) (λ p. leaves (p ∷ []) (with_fact s p ∷ [])))

-- when[φ], where φ has a negation: children: the rest with φ; the rest with its negation
abbrev pub case_split : SymState → List DArg → ℕ → Step
case_split s args n =
    Needs 1 (counts args 1 n 2) (Given 2 (fact_given s args 0) (λ p. Given 3 (negation p) (λ q.
    leaves [] (with_fact s p ∷ with_fact s q ∷ []))))

-- never: child: `1 = 0`, which closes the rest
abbrev pub never : List DArg → ℕ → Step
never args n = Needs 1 (counts args 0 n 1) (leaves (Equal (Number 1) (Number 0) ∷ []) [])

-- ---- predicates

-- parameters with their arguments, in order, as far as there are both
abbrev pub params_with : List Bind → List Arg → List (Name × Arg)
params_with [] args = []
params_with (b ∷ bs) [] = []
params_with (b ∷ bs) (a ∷ args) = (b.name, a) ∷ params_with bs args

-- unfold[i]: atom i is a predicate's. One child per case: the atom taken, the case opened, its words and sequences written anew from
-- their forms: a predicate that doubles its argument is unfolded forty times with no word of a million parts
abbrev pub with_args : Option Predicate → List Arg → Option (Predicate × List Arg)
with_args None args = None
with_args (Some p) args = Some (p, args)

abbrev pub declared : Decls → Atom → Option (Predicate × List Arg)
declared d (Pred name args) = with_args (predicate_named d name.bytes) args
declared d _ = None

abbrev pub cases_opened : SymState → List (Name × Arg) → List Assertion → List SymState
cases_opened s vs [] = []
cases_opened s vs (A ∷ As) = opened_anew alone vs A s ∷ cases_opened s vs As

abbrev pub unfold_rule : Decls → SymState → List DArg → ℕ → Step
unfold_rule d s args n =
    Needs 1 (length args == 1) (Given 2 (number_at args 0) (λ i. Given 2 (numbered s.atoms i) (λ x. Given 3 (declared d x) (λ p.
    Needs 1 (n == length p.0.cases) (leaves [] (cases_opened (taken s i) (params_with p.0.params p.1) p.0.cases))))))

-- fold[P, c, arguments, values of the binders of case c, atoms]: the case's terms match. Children: those of the match; the rest with
-- the atoms taken and P's atom added
abbrev pub value_args : List (Name × Arg) → List Arg
value_args [] = []
value_args (v ∷ vs) = v.1 ∷ value_args vs

abbrev pub beside : Name → Option Predicate → Option (Name × Predicate)
beside x None = None
beside x (Some p) = Some (x, p)

abbrev pub predicate_of : Decls → Option Name → Option (Name × Predicate)
predicate_of d None = None
predicate_of d (Some x) = beside x (predicate_named d x.bytes)

abbrev pub fold_rule : Decls → SymState → List DArg → ℕ → Step
fold_rule d s args n =
    Needs 1 (nat_le 2 (length args)) (Given 2 (predicate_of d (name_at args 0)) (λ p. Given 2 (at_number p.1.cases (number_at args 1)) (λ A.
    let params = length p.1.params in
    let binders = length A.binders in
    Needs 1 ((length args == 2 + params + binders + count_of_atoms A.terms) && (n == count_of_goals A.terms + 1))
    (Given 2 (to_values s.next p.1.params (take params (drop 2 args))) (λ vs.
    Given 2 (to_values s.next A.binders (take binders (drop (2 + params) args))) (λ bs.
    Given 2 (chosen s.atoms (drop (2 + params + binders) args)) (λ cs.
    Needs 3 (all_different cs) (Given 3 (match_goals (terms_with (alone (vs ++ bs)) A.terms) cs) (λ gs.
    leaves gs (with_atom (record s { atoms = atoms_left cs 1 s.atoms }) (Pred p.0 (value_args vs)) ∷ []))))))))))

-- ---- list segments

-- the start, the end and the elements of a list segment, and the name it has
pub record Segment : Type 0 where
  pub name : Name
  pub start : Word
  pub end : Word
  pub elements : Seq

abbrev pub segment_args : Name → List Arg → Option Segment
segment_args x (arg.Word i a ∷ arg.Word j b ∷ arg.Seq k s ∷ []) = Some (record { name = x; start = a; end = b; elements = s })
segment_args x _ = None

abbrev pub segment : Atom → Option Segment
segment (Pred x args) = if bytes_eq x.bytes lseg.name.bytes then segment_args x args else None
segment _ = None

abbrev pub is_lseg : Option Predicate → Bool
is_lseg None = false
is_lseg (Some p) = same_predicate p lseg

-- the first declared predicate named `lseg` is the one that every module has, places aside
abbrev pub has_segments : Decls → Bool
has_segments d = is_lseg (predicate_named d lseg.name.bytes)

-- append[i, j]: i and j are two different list segments. Children: end of i = start of j; the rest with the joined one in their place
abbrev pub joined_segment : Segment → Segment → Atom
joined_segment x y = Pred x.name (arg.Word 0 x.start ∷ arg.Word 0 y.end ∷ arg.Seq 0 (App x.elements y.elements) ∷ [])

abbrev pub append_rule : Decls → SymState → List DArg → ℕ → Step
append_rule d s args n =
    Needs 1 (counts args 2 n 2) (Given 2 (number_at args 0) (λ i. Given 2 (numbered s.atoms i) (λ a.
    Given 2 (number_at args 1) (λ j. Given 2 (numbered s.atoms j) (λ b.
    Needs 3 (not (i == j)) (Needs 3 (has_segments d) (Given 3 (segment a) (λ x. Given 3 (segment b) (λ y.
    leaves (Equal x.end y.start ∷ []) (with_atom (both_taken s i j) (joined_segment x y) ∷ []))))))))))

-- ---- blocks

-- the address and the number of words of a block
abbrev pub block_of : Atom → Option (Word × Word)
block_of (Block e k) = Some (e, k)
block_of _ = None

-- divide[i, m]: atom i is `block(e, k)`. Children: `m <= k`; the rest with `block(e, m)` and `block(e + 4m, k - m)`
abbrev pub divide : SymState → List DArg → ℕ → Step
divide s args n =
    Needs 1 (counts args 2 n 2) (Given 2 (number_at args 0) (λ i. Given 2 (numbered s.atoms i) (λ x. Given 2 (word_at s args 1) (λ m.
    Given 3 (block_of x) (λ b.
    leaves (AtMost m b.1 ∷ []) (with_atom (with_atom (taken s i) (Block b.0 m)) (Block (Add b.0 (Times 4 m)) (Sub b.1 m)) ∷ []))))))

-- merge[i, j]: two different blocks. Children: e of j = e of i + 4 times k of i; the rest with `block(e of i, k of i + k of j)`
abbrev pub merge : SymState → List DArg → ℕ → Step
merge s args n =
    Needs 1 (counts args 2 n 2) (Given 2 (number_at args 0) (λ i. Given 2 (numbered s.atoms i) (λ x.
    Given 2 (number_at args 1) (λ j. Given 2 (numbered s.atoms j) (λ y.
    Needs 3 (not (i == j)) (Given 3 (block_of x) (λ b. Given 3 (block_of y) (λ c.
    leaves (Equal c.0 (Add b.0 (Times 4 b.1)) ∷ []) (with_atom (both_taken s i j) (Block b.0 (Add b.1 c.1)) ∷ [])))))))))

-- ---- shapes of cells, bytes and blocks

abbrev pub cell_of : Atom → Option (Word × Word)
cell_of (Cell e v) = Some (e, v)
cell_of _ = None

abbrev pub byte_of : Atom → Option (Word × Word)
byte_of (Byte e v) = Some (e, v)
byte_of _ = None

abbrev pub fresh_word : ℕ → Word
fresh_word n = WordVar (var.Fresh n)

-- a + 256 b + 65536 c + 16777216 d
abbrev pub four_bytes : Word → Word → Word → Word → Word
four_bytes a b c d = Add (Add (Add a (Times 256 b)) (Times 65536 c)) (Times 16777216 d)

abbrev pub with_next : SymState → ℕ → SymState
with_next s k = record s { next = s.next + k }

-- shape[1, i]: a cell becomes four bytes at e to e + 3 with fresh contents, and the fact that their sum is its content
abbrev pub bytes_at : SymState → Word → ℕ → SymState
bytes_at s e f =
    with_atom (with_atom (with_atom (with_atom s
    (Byte e (fresh_word f))) (Byte (Add e (Number 1)) (fresh_word (f + 1))))
    (Byte (Add e (Number 2)) (fresh_word (f + 2)))) (Byte (Add e (Number 3)) (fresh_word (f + 3)))

abbrev pub cell_to_bytes : SymState → List DArg → ℕ → Step
cell_to_bytes s args n =
    Needs 1 (counts args 2 n 1) (Given 2 (number_at args 1) (λ i. Given 2 (numbered s.atoms i) (λ x. Given 3 (cell_of x) (λ c.
    let f = s.next in
    leaves [] (with_fact (bytes_at (with_next (taken s i) 4) c.0 f)
    (Equal c.1 (four_bytes (fresh_word f) (fresh_word (f + 1)) (fresh_word (f + 2)) (fresh_word (f + 3)))) ∷ [])))))

-- shape[2, i, j, k, l]: four bytes. Children: e of i is at most 4294967292; e of j, k and l is e of i plus 1, 2 and 3; the rest with the
-- cell of their sum
abbrev pub follows : Word → Word → ℕ → Pure
follows e f k = Equal f (Add e (Number k))

abbrev pub four_chosen : SymState → List (ℕ × Atom) → Step
four_chosen s (i ∷ j ∷ k ∷ l ∷ []) =
    Given 3 (byte_of i.1) (λ a. Given 3 (byte_of j.1) (λ b. Given 3 (byte_of k.1) (λ c. Given 3 (byte_of l.1) (λ e.
    leaves (AtMost a.0 (Number 4294967292) ∷ follows a.0 b.0 1 ∷ follows a.0 c.0 2 ∷ follows a.0 e.0 3 ∷ [])
    (with_atom (record s { atoms = atoms_left (i ∷ j ∷ k ∷ l ∷ []) 1 s.atoms }) (Cell a.0 (four_bytes a.1 b.1 c.1 e.1)) ∷ [])))))
four_chosen s _ = Fails 1

abbrev pub bytes_to_cell : SymState → List DArg → ℕ → Step
bytes_to_cell s args n =
    Needs 1 (counts args 5 n 5) (Given 2 (chosen s.atoms (drop 1 args)) (λ cs. Needs 3 (all_different cs) (four_chosen s cs)))

-- shape[3, i]: `block(e, k)`; children: `k = 1`; the rest with a cell of a fresh content
abbrev pub block_to_cell : SymState → List DArg → ℕ → Step
block_to_cell s args n =
    Needs 1 (counts args 2 n 2) (Given 2 (number_at args 1) (λ i. Given 2 (numbered s.atoms i) (λ x. Given 3 (block_of x) (λ b.
    leaves (Equal b.1 (Number 1) ∷ []) (with_atom (with_next (taken s i) 1) (Cell b.0 (fresh_word s.next)) ∷ [])))))

-- shape[4, i]: a cell becomes `block(e, 1)`
abbrev pub cell_to_block : SymState → List DArg → ℕ → Step
cell_to_block s args n =
    Needs 1 (counts args 2 n 1) (Given 2 (number_at args 1) (λ i. Given 2 (numbered s.atoms i) (λ x. Given 3 (cell_of x) (λ c.
    leaves [] (with_atom (taken s i) (Block c.0 (Number 1)) ∷ [])))))

-- shape[5, i]: `block(e, k)`; children: `k = 0`; the rest without it
abbrev pub drop_block : SymState → List DArg → ℕ → Step
drop_block s args n =
    Needs 1 (counts args 2 n 2) (Given 2 (number_at args 1) (λ i. Given 2 (numbered s.atoms i) (λ x. Given 3 (block_of x) (λ b.
    leaves (Equal b.1 (Number 0) ∷ []) (taken s i ∷ [])))))

-- shape[k, ..], by its first argument
pub data Shape : Type 0 where
  CellToBytes : Shape
  BytesToCell : Shape
  BlockToCell : Shape
  CellToBlock : Shape
  DropBlock : Shape

abbrev pub shapes : List Shape
shapes = CellToBytes ∷ BytesToCell ∷ BlockToCell ∷ CellToBlock ∷ DropBlock ∷ []

abbrev pub shape_of : Shape → SymState → List DArg → ℕ → Step
shape_of CellToBytes s args n = cell_to_bytes s args n
shape_of BytesToCell s args n = bytes_to_cell s args n
shape_of BlockToCell s args n = block_to_cell s args n
shape_of CellToBlock s args n = cell_to_block s args n
shape_of DropBlock s args n = drop_block s args n

abbrev pub shape : SymState → List DArg → ℕ → Step
shape s args n = Needs 1 (nat_le 1 (length args)) (Given 2 (at_number shapes (number_at args 0)) (λ k. shape_of k s args n))
