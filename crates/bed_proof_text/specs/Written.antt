-- The grammar of the trees in a proof text, left-factored, so that one token of foresight decides. Above each production
-- stands the line of the format that it is of:
--   node = rule ("[" argument,+ "]")? ("{" node+ "}")?
-- Words, sequences and facts are those of module texts, and `#` with digits is a fresh variable. They may have any number of
-- parts and of brackets. n is how many nodes may still be opened inside one another.
use Rattle.std.specs.Prelude.{ℕ, zero, suc, Bool, true, false, List, [], ◌∷◌, Option, Some, None, ◌⊎◌}
use Rattle.std.proofs.Common.{inl, inr}
use Rattle.bed_grammar.specs.Grammar.{Rhs, token, empty, seq, alt, ref, Value, Grammar}
use Rattle.bed_lang.specs.declared.word.Name.{Name}
use Rattle.bed_lang.specs.declared.word.Word as word
use Rattle.bed_lang.specs.declared.word.Var.TheVariants as var
use Rattle.bed_lang.specs.declared.word.Seq as sequence
use Rattle.bed_lang.specs.declared.logic.Pure as pures
use Rattle.bed_lang.specs.declared.logic.Pure.TheVariants as pure
use Rattle.bed_lang.specs.declared.module.Rel.{Rel}
use Rattle.bed_lang.specs.declared.module.Rel.TheVariants as rel
use Rattle.bed_lex.specs.declared.token.Token.{Token}
use Rattle.bed_deriv.specs.declared.derivation.Rule.{Rule}
use Rattle.bed_deriv.specs.declared.derivation.Rule.TheVariants as rule
use Rattle.bed_deriv.specs.declared.derivation.Deriv.{Deriv}
use Rattle.bed_deriv.specs.declared.derivation.DArg.{DArg}
use Rattle.bed_deriv.specs.declared.derivation.DArg.TheVariants as given
use Rattle.bed_deriv.specs.declared.derivation.Edge.TheVariants as edge
use Rattle.bed_proof_text.specs.Classes.{class, IsLexeme, NAME, ONE, NUMBER, CODE, IN, NOTIN, NIL, CONS, APP, OLD, RESULT, UNFOLD, FOLD, APPEND, DIVIDE, MERGE, CLAIM, WHEN, COMMA, LEFT_PAREN, RIGHT_PAREN, LEFT_BRACE, RIGHT_BRACE, LEFT_BRACKET, RIGHT_BRACKET, LESS, AT_MOST, EQUAL, SAME, UNEQUAL, PLUS, MINUS, STAR, AMPERSAND, FRESH, RULE, CHAIN, PROOFS, CONDITION, EDGE, Z_EDGE}
use Rattle.bed_proof_text.specs.Trees.{number_of, name_of, rule_of, edge_of, node_of, moved, summed, Tail, against, belongs, Onward, parts, same, begun, variable_argument, name_argument, number_argument, seq_argument}

-- The nonterminals: the productions, with the lists, options and choices inside them.
pub data N : Type 0 where
  Node : ℕ → N
  Nodes : ℕ → N
  Children : ℕ → N
  RuleWord : N
  Args : N
  MoreArgs : N
  Edges : N
  MoreEdges : N
  EdgeArg : N
  Argument : N
  AfterVar : N
  AfterNumber : N
  AfterSeq : N
  OptTail : N
  FactTail : N
  Relation : N
  Membership : N
  CodeFact : N
  Word : N
  Sums : N
  Sign : N
  Part : N
  Other : N
  Inner : N
  Start : N
  AfterFactor : N
  Seq : N
  PlainSeq : N
  Nam : N
  Num : N

-- The tree of a nonterminal. A place beside a tree is that of its first token.
abbrev pub Tree : N → Type 0
Tree (Node n) = Deriv
Tree (Nodes n) = List Deriv
Tree (Children n) = List Deriv
Tree RuleWord = Rule
Tree Args = List DArg
Tree MoreArgs = List DArg
Tree Edges = List DArg
Tree MoreEdges = List DArg
Tree EdgeArg = DArg
Tree Argument = DArg
Tree AfterVar = Onward
Tree AfterNumber = Onward
Tree AfterSeq = Option sequence.Seq
Tree OptTail = Option Tail
Tree FactTail = Tail
Tree Relation = Rel
Tree Membership = Bool
Tree CodeFact = pures.Pure
Tree Word = word.Word
Tree Sums = List (Bool × word.Word)
Tree Sign = Bool
Tree Part = word.Word
Tree Other = ℕ × word.Word
Tree Inner = word.Word
Tree Start = word.Word
Tree AfterFactor = word.Word ⊎ List (Bool × word.Word)
Tree Seq = sequence.Seq
Tree PlainSeq = ℕ × sequence.Seq
Tree Nam = Name
Tree Num = ℕ × ℕ

-- one part after the other
infixr 6 ◌▸◌
abbrev pub ◌▸◌ : Rhs N ⊥ → Rhs N ⊥ → Rhs N ⊥
a ▸ b = seq a b

-- either of two parts
infixr 4 ◌∥◌
abbrev pub ◌∥◌ : Rhs N ⊥ → Rhs N ⊥ → Rhs N ⊥
a ∥ b = alt a b

-- a token of a class
abbrev pub sign : ℕ → Rhs N ⊥
sign c = token c None

abbrev pub production : N → Rhs N ⊥
-- node = rule ("[" argument,+ "]")? ("{" node+ "}")?, where the arguments of `chain` are edges
production (Node n) = sign CHAIN ▸ ref Edges ▸ ref (Children n) ∥ ref RuleWord ▸ ref Args ▸ ref (Children n)
production (Nodes n) = ref (Node n) ▸ ref (Nodes n) ∥ empty
production (Children zero) = empty
production (Children (suc n)) = sign LEFT_BRACE ▸ ref (Node n) ▸ ref (Nodes n) ▸ sign RIGHT_BRACE ∥ empty
-- rule, but for `chain`: by its spelling, also where that is a reserved word
production RuleWord = sign RULE ∥ sign CLAIM ∥ sign WHEN ∥ sign UNFOLD ∥ sign FOLD ∥ sign APPEND ∥ sign DIVIDE ∥ sign MERGE
production Args = sign LEFT_BRACKET ▸ ref Argument ▸ ref MoreArgs ▸ sign RIGHT_BRACKET ∥ empty
production MoreArgs = sign COMMA ▸ ref Argument ▸ ref MoreArgs ∥ empty
production Edges = sign LEFT_BRACKET ▸ ref EdgeArg ▸ ref MoreEdges ▸ sign RIGHT_BRACKET ∥ empty
production MoreEdges = sign COMMA ▸ ref EdgeArg ▸ ref MoreEdges ∥ empty
-- edge = "h" | letter digits | "z" "(" word ")", where a letter and digits are one name
production EdgeArg = sign EDGE ∥ sign Z_EDGE ▸ sign LEFT_PAREN ▸ ref Word ▸ sign RIGHT_PAREN
-- argument = number | name | pure | word | seq
-- pure = word ("=" | "!=" | "<" | "<=") word | seq "==" seq | word ("in" | "notin") seq | "code" "(" word "," name ")"
production Argument =
    ref Nam ▸ ref AfterVar ∥ ref Num ▸ ref AfterNumber ∥ sign FRESH ▸ ref AfterVar ∥ ref PlainSeq ▸ ref AfterSeq ∥ ref CodeFact ∥ ref Other ▸ ref AfterNumber
production AfterVar = sign SAME ▸ ref Seq ∥ ref Sums ▸ ref OptTail
production AfterNumber = ref Sums ▸ ref OptTail
production AfterSeq = sign SAME ▸ ref Seq ∥ empty
production OptTail = ref FactTail ∥ empty
production FactTail = ref Relation ▸ ref Word ∥ ref Membership ▸ ref Seq
production Relation = sign EQUAL ∥ sign UNEQUAL ∥ sign LESS ∥ sign AT_MOST
production Membership = sign IN ∥ sign NOTIN
production CodeFact = sign CODE ▸ sign LEFT_PAREN ▸ ref Word ▸ sign COMMA ▸ ref Nam ▸ sign RIGHT_PAREN
-- word = part (("+" | "-") part)*
production Word = ref Part ▸ ref Sums
production Sums = ref Sign ▸ ref Part ▸ ref Sums ∥ empty
production Sign = sign PLUS ∥ sign MINUS
-- part = number | name | fresh | "&" name | "old" name | "result" | "(" number "*" word ")" | "(" word ")"
production Part = ref Num ∥ ref Start
production Start = ref Nam ∥ sign FRESH ∥ ref Other
production Other = sign AMPERSAND ▸ ref Nam ∥ sign OLD ▸ ref Nam ∥ sign RESULT ∥ sign LEFT_PAREN ▸ ref Inner ▸ sign RIGHT_PAREN
production Inner = ref Num ▸ ref AfterFactor ∥ ref Start ▸ ref Sums
production AfterFactor = sign STAR ▸ ref Word ∥ ref Sums
-- seq = name | fresh | "nil" | "cons" "(" word "," seq ")" | "app" "(" seq "," seq ")"
production Seq = ref Nam ∥ sign FRESH ∥ ref PlainSeq
production PlainSeq =
    sign NIL ∥ sign CONS ▸ sign LEFT_PAREN ▸ ref Word ▸ sign COMMA ▸ ref Seq ▸ sign RIGHT_PAREN
    ∥ sign APP ▸ sign LEFT_PAREN ▸ ref Seq ▸ sign COMMA ▸ ref Seq ▸ sign RIGHT_PAREN
-- a name may spell a rule, an edge, `proofs` or `condition` too
production Nam = sign NAME ∥ sign RULE ∥ sign CHAIN ∥ sign PROOFS ∥ sign CONDITION ∥ sign EDGE ∥ sign Z_EDGE
production Num = sign ONE ∥ sign NUMBER

abbrev pub action : (n : N) → Value Token Tree (production n) → Tree n
action (Node n) (inl v) = node_of rule.Chain v.1.0 v.1.1
action (Node n) (inr v) = node_of v.0 v.1.0 v.1.1
action (Nodes n) (inl v) = v.0 ∷ v.1
action (Nodes n) (inr v) = []
action (Children zero) v = []
action (Children (suc n)) (inl v) = v.1.0 ∷ v.1.1.0
action (Children (suc n)) (inr v) = []
action RuleWord (inl v) = rule_of v.kind
action RuleWord (inr (inl v)) = rule_of v.kind
action RuleWord (inr (inr (inl v))) = rule_of v.kind
action RuleWord (inr (inr (inr (inl v)))) = rule_of v.kind
action RuleWord (inr (inr (inr (inr (inl v))))) = rule_of v.kind
action RuleWord (inr (inr (inr (inr (inr (inl v)))))) = rule_of v.kind
action RuleWord (inr (inr (inr (inr (inr (inr (inl v))))))) = rule_of v.kind
action RuleWord (inr (inr (inr (inr (inr (inr (inr v))))))) = rule_of v.kind
action Args (inl v) = v.1.0 ∷ v.1.1.0
action Args (inr v) = []
action MoreArgs (inl v) = v.1.0 ∷ v.1.1
action MoreArgs (inr v) = []
action Edges (inl v) = v.1.0 ∷ v.1.1.0
action Edges (inr v) = []
action MoreEdges (inl v) = v.1.0 ∷ v.1.1
action MoreEdges (inr v) = []
action EdgeArg (inl v) = given.Edge (edge_of v.kind)
action EdgeArg (inr v) = given.Edge (edge.Z v.1.1.0)
action Argument (inl v) = name_argument v.0 v.1
action Argument (inr (inl v)) = number_argument v.0.0 v.0.1 v.1
action Argument (inr (inr (inl v))) = variable_argument v.0.at (var.Fresh (number_of v.0.kind)) v.1
action Argument (inr (inr (inr (inl v)))) = seq_argument v.0.0 v.0.1 v.1
action Argument (inr (inr (inr (inr (inl v))))) = given.Pure v
action Argument (inr (inr (inr (inr (inr v))))) = begun v.0.0 v.0.1 v.1
action AfterVar (inl v) = same v.1
action AfterVar (inr v) = parts v.0 v.1
action AfterNumber v = parts v.0 v.1
action AfterSeq (inl v) = Some v.1
action AfterSeq (inr v) = None
action OptTail (inl v) = Some v
action OptTail (inr v) = None
action FactTail (inl v) = against v.0 v.1
action FactTail (inr v) = belongs v.0 v.1
action Relation (inl v) = rel.Equal
action Relation (inr (inl v)) = rel.Unequal
action Relation (inr (inr (inl v))) = rel.Less
action Relation (inr (inr (inr v))) = rel.AtMost
action Membership (inl v) = true
action Membership (inr v) = false
action CodeFact v = pure.Code v.1.1.0 v.1.1.1.1.0
action Word v = summed v.0 v.1
action Sums (inl v) = (v.0, v.1.0) ∷ v.1.1
action Sums (inr v) = []
action Sign (inl v) = true
action Sign (inr v) = false
action Part (inl v) = word.Number v.1
action Part (inr v) = v
action Start (inl v) = word.Var (var.Named v)
action Start (inr (inl v)) = word.Var (var.Fresh (number_of v.kind))
action Start (inr (inr v)) = v.1
action Other (inl v) = (v.0.at, word.Label v.1)
action Other (inr (inl v)) = (v.0.at, word.Var (var.Old (moved v.0.at v.1)))
action Other (inr (inr (inl v))) = (v.at, word.Var (var.Answer v.at))
action Other (inr (inr (inr v))) = (v.0.at, v.1.0)
action Inner (inl (x, inl a)) = word.Times x.1 a
action Inner (inl (x, inr bs)) = summed (word.Number x.1) bs
action Inner (inr v) = summed v.0 v.1
action AfterFactor (inl v) = inl v.1
action AfterFactor (inr v) = inr v
action Seq (inl v) = sequence.Var (var.Named v)
action Seq (inr (inl v)) = sequence.Var (var.Fresh (number_of v.kind))
action Seq (inr (inr v)) = v.1
action PlainSeq (inl v) = (v.at, sequence.Nil)
action PlainSeq (inr (inl v)) = (v.0.at, sequence.Cons v.1.1.0 v.1.1.1.1.0)
action PlainSeq (inr (inr v)) = (v.0.at, sequence.App v.1.1.0 v.1.1.1.1.0)
action Nam (inl v) = name_of v.kind
action Nam (inr (inl v)) = name_of v.kind
action Nam (inr (inr (inl v))) = name_of v.kind
action Nam (inr (inr (inr (inl v)))) = name_of v.kind
action Nam (inr (inr (inr (inr (inl v))))) = name_of v.kind
action Nam (inr (inr (inr (inr (inr (inl v)))))) = name_of v.kind
action Nam (inr (inr (inr (inr (inr (inr v)))))) = name_of v.kind
action Num (inl v) = (v.at, number_of v.kind)
action Num (inr v) = (v.at, number_of v.kind)

abbrev pub nodes : Grammar
nodes = record { Nonterminal = N; Token = Token; Limit = ⊥; class = class; IsLexeme = IsLexeme; Tree = Tree; rule = production; action = action }
