-- Reading a nonterminal whose texts aren't empty takes tokens.
use Rattle.std.proofs.Common.{◌≡◌, ℕ, ◌<◌, length, List, Ok, refl}
use Rattle.bed_grammar.proofs.Exactness.{consumes}
use Rattle.bed_lex.specs.declared.token.Token.{Token}
use Rattle.bed_read.specs.Written.{Tree, Arg, HoleArg, Operand, Hint, Statement, Signature, Predicate, Import, Function}
use Rattle.bed_read.specs.Factored.{factored}
use Rattle.bed_read.specs.Tables.{tables, read}
use Rattle.bed_read.proofs.Certificate.{certified}

pub shorter_arg : (n : ℕ) (s : List Token) (v : Tree (Arg n)) (rest : List Token) → read (Arg n) s ≡ Ok (v, rest) → length rest < length s
shorter_arg n s v rest e = consumes factored tables certified (Arg n) refl s v rest e

pub shorter_hole_arg : (n : ℕ) (s : List Token) (v : Tree (HoleArg n)) (rest : List Token) → read (HoleArg n) s ≡ Ok (v, rest) → length rest < length s
shorter_hole_arg n s v rest e = consumes factored tables certified (HoleArg n) refl s v rest e

pub shorter_operand : (s : List Token) (v : Tree Operand) (rest : List Token) → read Operand s ≡ Ok (v, rest) → length rest < length s
shorter_operand s v rest e = consumes factored tables certified Operand refl s v rest e

pub shorter_hint : (s : List Token) (v : Tree Hint) (rest : List Token) → read Hint s ≡ Ok (v, rest) → length rest < length s
shorter_hint s v rest e = consumes factored tables certified Hint refl s v rest e

pub shorter_statement : (n : ℕ) (s : List Token) (v : Tree (Statement n)) (rest : List Token) → read (Statement n) s ≡ Ok (v, rest) → length rest < length s
shorter_statement n s v rest e = consumes factored tables certified (Statement n) refl s v rest e

pub shorter_signature : (s : List Token) (v : Tree Signature) (rest : List Token) → read Signature s ≡ Ok (v, rest) → length rest < length s
shorter_signature s v rest e = consumes factored tables certified Signature refl s v rest e

pub shorter_predicate : (s : List Token) (v : Tree Predicate) (rest : List Token) → read Predicate s ≡ Ok (v, rest) → length rest < length s
shorter_predicate s v rest e = consumes factored tables certified Predicate refl s v rest e

pub shorter_import : (s : List Token) (v : Tree Import) (rest : List Token) → read Import s ≡ Ok (v, rest) → length rest < length s
shorter_import s v rest e = consumes factored tables certified Import refl s v rest e

pub shorter_function : (s : List Token) (v : Tree Function) (rest : List Token) → read Function s ≡ Ok (v, rest) → length rest < length s
shorter_function s v rest e = consumes factored tables certified Function refl s v rest e
