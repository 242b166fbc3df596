-- How the trees of productions are made.
use Rattle.std.specs.Prelude.{ℕ, Bool, true, false, if◌then◌else◌, List, [], ◌∷◌}
use Rattle.bed_lang.specs.declared.word.Name.{Name}
use Rattle.bed_lang.specs.declared.word.Word as word
use Rattle.bed_lang.specs.declared.word.Var.TheVariants as var
use Rattle.bed_lang.specs.declared.word.Seq as seq
use Rattle.bed_lang.specs.declared.logic.Arg.{Arg}
use Rattle.bed_lang.specs.declared.logic.Arg.TheVariants as arg
use Rattle.bed_lang.specs.declared.logic.Pure.{Pure}
use Rattle.bed_lang.specs.declared.logic.Pure.TheVariants as pure
use Rattle.bed_lang.specs.declared.logic.Atom.TheVariants as atom
use Rattle.bed_lang.specs.declared.logic.Term.{Term}
use Rattle.bed_lang.specs.declared.logic.Term.TheVariants as term
use Rattle.bed_lang.specs.declared.module.Rel.{Rel}
use Rattle.bed_lang.specs.declared.module.Rel.TheVariants as rel
use Rattle.bed_lang.specs.declared.statement.StmtKind as stmt
use Rattle.bed_lex.specs.declared.token.Kind.{Kind}
use Rattle.bed_lex.specs.declared.token.Kind.TheVariants as kind
use Rattle.bed_read.specs.declared.parts.Piece.{Piece}
use Rattle.bed_read.specs.declared.parts.Piece.TheVariants as piece
use Rattle.bed_read.specs.declared.parts.Tail.{Tail}
use Rattle.bed_read.specs.declared.parts.Tail.TheVariants as tail
use Rattle.bed_read.specs.declared.parts.Source.{Source}
use Rattle.bed_read.specs.declared.parts.Source.TheVariants as source

abbrev pub number_of : Kind → ℕ
number_of (kind.Number n) = n
number_of _ = 0

abbrev pub name_of : Kind → Name
name_of (kind.Name x) = x
name_of _ = record { bytes = []; at = 0 }

-- `old a`: the name a at the place of the word `old`
abbrev pub moved : ℕ → Name → Name
moved at x = record { bytes = x.bytes; at = at }

abbrev pub word_of : Piece → word.Word
word_of (piece.Name x) = word.Var (var.Named x)
word_of (piece.Word at w) = w

-- the place of a word's first token
abbrev pub place_of : Piece → ℕ
place_of (piece.Name x) = x.at
place_of (piece.Word at w) = at

-- one more part of a sum, added or subtracted
abbrev pub added : word.Word → Bool × word.Word → word.Word
added a b = if b.0 then word.Add a b.1 else word.Sub a b.1

-- one more part on top of a sum, which stands where its first part does
abbrev pub joined : Piece → Bool × word.Word → Piece
joined p b = piece.Word (place_of p) (added (word_of p) b)

-- the parts of a sum are taken from the left; with no more parts it is its first one
abbrev pub summed : Piece → List (Bool × word.Word) → Piece
summed p [] = p
summed p (b ∷ bs) = summed (joined p b) bs

-- an argument that is a word: a name alone is Bare
abbrev pub word_argument : Piece → Arg
word_argument (piece.Name x) = arg.Bare x
word_argument (piece.Word at w) = arg.Word at w

-- the argument `_`
abbrev pub hole : ℕ → Arg
hole at = arg.Bare (record { bytes = 95 ∷ []; at = at })

abbrev pub compared : word.Word → Rel → word.Word → Pure
compared a rel.Equal b = pure.Equal a b
compared a rel.Unequal b = pure.Unequal a b
compared a rel.Less b = pure.Less a b
compared a rel.AtMost b = pure.AtMost a b

-- `a in s`, or `a notin s`
abbrev pub membership : word.Word → Bool → seq.Seq → Pure
membership a true s = pure.Member a s
membership a false s = pure.NonMember a s

-- a pure fact that begins with the word a
abbrev pub fact_of : word.Word → Tail → Pure
fact_of a (tail.Compared r b) = compared a r b
fact_of a (tail.Belongs i s) = membership a i s

-- `e |-> v`, or `e |->b v`
abbrev pub points_to : word.Word → Bool → word.Word → Term
points_to e true v = term.Atom (atom.Cell e v)
points_to e false v = term.Atom (atom.Byte e v)

-- a cell at the address p, with its place
abbrev pub cell_at : Piece → Bool × word.Word → ℕ × Term
cell_at p c = (place_of p, points_to (word_of p) c.0 c.1)

-- an assignment to the local x
abbrev pub assigned : Name → Source → stmt.StmtKind
assigned x (source.Operand a) = stmt.Assign x a
assigned x (source.Compute o a b) = stmt.Compute x o a b
assigned x (source.Load p) = stmt.Load x p
assigned x (source.LoadByte p) = stmt.LoadByte x p
assigned x (source.Call c) = stmt.Call c.place x c.target c.via c.args c.hints c.after
