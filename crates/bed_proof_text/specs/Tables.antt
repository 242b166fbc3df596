-- The tables by which one token of foresight decides the grammar, and reading by them.
use Rattle.std.specs.Prelude.{ℕ, nat_lt, Bool, true, false, List, [], ◌∷◌, ◌++◌}
use Rattle.bed_grammar.specs.Exact.{Outcome}
use Rattle.bed_grammar.specs.Tables.{Tables}
use Rattle.bed_grammar.specs.Parsing.{parse}
use Rattle.bed_lex.specs.declared.token.Token.{Token}
use Rattle.bed_proof_text.specs.Classes.{NAME, ONE, NUMBER, CODE, IN, NOTIN, NIL, CONS, APP, OLD, RESULT, UNFOLD, FOLD, APPEND, DIVIDE, MERGE, CLAIM, WHEN, COMMA, LEFT_PAREN, LEFT_BRACE, LEFT_BRACKET, LESS, AT_MOST, EQUAL, SAME, UNEQUAL, PLUS, MINUS, STAR, AMPERSAND, FRESH, RULE, CHAIN, PROOFS, CONDITION, EDGE, Z_EDGE}
use Rattle.bed_proof_text.specs.Written.{N, Tree, Node, Nodes, Children, RuleWord, Args, MoreArgs, Edges, MoreEdges, EdgeArg, Argument, AfterVar, AfterNumber, AfterSeq, OptTail, FactTail, Relation, Membership, CodeFact, Word, Sums, Sign, Part, Start, Other, Inner, AfterFactor, Seq, PlainSeq, Nam, Num, nodes}

-- Its texts may be empty.
abbrev pub nullables : N → Bool
nullables (Nodes n) = true
nullables (Children n) = true
nullables Args = true
nullables MoreArgs = true
nullables Edges = true
nullables MoreEdges = true
nullables AfterVar = true
nullables AfterNumber = true
nullables AfterSeq = true
nullables OptTail = true
nullables Sums = true
nullables AfterFactor = true
nullables _ = false

abbrev pub names : List ℕ
names = NAME ∷ RULE ∷ CHAIN ∷ PROOFS ∷ CONDITION ∷ EDGE ∷ Z_EDGE ∷ []

abbrev pub others : List ℕ
others = AMPERSAND ∷ OLD ∷ RESULT ∷ LEFT_PAREN ∷ []

abbrev pub starts : List ℕ
starts = FRESH ∷ (names ++ others)

abbrev pub words : List ℕ
words = ONE ∷ NUMBER ∷ starts

abbrev pub rules : List ℕ
rules = RULE ∷ CLAIM ∷ WHEN ∷ UNFOLD ∷ FOLD ∷ APPEND ∷ DIVIDE ∷ MERGE ∷ []

abbrev pub tails : List ℕ
tails = EQUAL ∷ UNEQUAL ∷ LESS ∷ AT_MOST ∷ IN ∷ NOTIN ∷ []

-- The classes with which its texts begin.
abbrev pub firsts : N → List ℕ
firsts (Node n) = CHAIN ∷ rules
firsts (Nodes n) = CHAIN ∷ rules
firsts (Children n) = LEFT_BRACE ∷ []
firsts RuleWord = rules
firsts Args = LEFT_BRACKET ∷ []
firsts MoreArgs = COMMA ∷ []
firsts Edges = LEFT_BRACKET ∷ []
firsts MoreEdges = COMMA ∷ []
firsts EdgeArg = EDGE ∷ Z_EDGE ∷ []
firsts Argument = CODE ∷ NIL ∷ CONS ∷ APP ∷ words
firsts AfterVar = SAME ∷ PLUS ∷ MINUS ∷ tails
firsts AfterNumber = PLUS ∷ MINUS ∷ tails
firsts AfterSeq = SAME ∷ []
firsts OptTail = tails
firsts FactTail = tails
firsts Relation = EQUAL ∷ UNEQUAL ∷ LESS ∷ AT_MOST ∷ []
firsts Membership = IN ∷ NOTIN ∷ []
firsts CodeFact = CODE ∷ []
firsts Word = words
firsts Sums = PLUS ∷ MINUS ∷ []
firsts Sign = PLUS ∷ MINUS ∷ []
firsts Part = words
firsts Start = starts
firsts Other = others
firsts Inner = words
firsts AfterFactor = STAR ∷ PLUS ∷ MINUS ∷ []
firsts Seq = FRESH ∷ NIL ∷ CONS ∷ APP ∷ names
firsts PlainSeq = NIL ∷ CONS ∷ APP ∷ []
firsts Nam = names
firsts Num = ONE ∷ NUMBER ∷ []

-- The classes that may continue a whole text of it to a longer one.
abbrev pub follow_lasts : N → List ℕ
follow_lasts (Node n) = LEFT_BRACKET ∷ LEFT_BRACE ∷ []
follow_lasts (Nodes n) = LEFT_BRACKET ∷ LEFT_BRACE ∷ CHAIN ∷ rules
follow_lasts (Children n) = LEFT_BRACE ∷ []
follow_lasts Args = LEFT_BRACKET ∷ []
follow_lasts MoreArgs = COMMA ∷ SAME ∷ PLUS ∷ MINUS ∷ tails
follow_lasts Edges = LEFT_BRACKET ∷ []
follow_lasts MoreEdges = COMMA ∷ []
follow_lasts Argument = SAME ∷ PLUS ∷ MINUS ∷ tails
follow_lasts AfterVar = SAME ∷ PLUS ∷ MINUS ∷ tails
follow_lasts AfterNumber = PLUS ∷ MINUS ∷ tails
follow_lasts AfterSeq = SAME ∷ []
follow_lasts OptTail = PLUS ∷ MINUS ∷ tails
follow_lasts FactTail = PLUS ∷ MINUS ∷ []
follow_lasts Word = PLUS ∷ MINUS ∷ []
follow_lasts Sums = PLUS ∷ MINUS ∷ []
follow_lasts Inner = STAR ∷ PLUS ∷ MINUS ∷ []
follow_lasts AfterFactor = STAR ∷ PLUS ∷ MINUS ∷ []
follow_lasts _ = []

-- A rank above those of the nonterminals at its left end.
abbrev pub rank : N → ℕ
rank (Node n) = 1
rank (Nodes n) = 2
rank Argument = 1
rank AfterVar = 3
rank AfterNumber = 3
rank OptTail = 2
rank FactTail = 1
rank Word = 3
rank Sums = 1
rank Part = 2
rank Start = 1
rank Inner = 2
rank AfterFactor = 2
rank Seq = 1
rank _ = 0

-- The height of a derivation tree that it has.
abbrev pub height : N → ℕ
height (Node n) = 1
height Argument = 2
height AfterVar = 1
height AfterNumber = 1
height FactTail = 1
height CodeFact = 3
height Word = 2
height Part = 1
height Inner = 1
height AfterFactor = 1
height _ = 0

abbrev pub tables : Tables nodes
tables = record { is_terminal = λ c. nat_lt c 92; nullables = nullables; firsts = firsts; follow_lasts = follow_lasts; rank = rank; ranks = 4; height = height }

-- how a nonterminal is read
abbrev pub read : (n : N) → List Token → Outcome Token ⊥ (Tree n)
read n s = parse nodes tables n s
