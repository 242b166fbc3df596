-- One token of foresight decides the factored grammar of modules.
use Rattle.std.proofs.Common.{◌≡◌, ℕ, zero, suc, ◌<◌, nat_lt, true, false, List, [], ◌∷◌, Some, Result, refl, not, ◌||◌, lit<, arith}
use native.Mathlib.Numerals.{unary_clauses}
use Rattle.std.proofs.lemmas.Bool.{ltb-true}
use Rattle.bed_grammar.specs.Exact.{Outcome}
use Rattle.bed_grammar.specs.Tables.{IsLl1, is_lower, nullable, first, follow_last, subset, has, end_class, is_ll1, left_below}
use Rattle.bed_grammar.specs.Parsing.{outcome_map, read_rhs}
use Rattle.bed_grammar.specs.Gives.{Gives}
use Rattle.bed_grammar.specs.declared.refusal.Refusal.{Refusal}
use Rattle.bed_grammar.proofs.Reading as reading
use Rattle.bed_lex.specs.Tokens.{fixed_word}
use Rattle.bed_lex.specs.Words.{fixed_words, reserved_words, marks}
use Rattle.bed_lex.specs.declared.token.Token.{Token}
use Rattle.bed_lex.specs.declared.token.Kind.TheVariants as kind
use Rattle.bed_lang.specs.declared.limit.Which.{Which}
use Rattle.bed_read.specs.Classes.{class, is_name, IsLexeme}
use Rattle.bed_read.specs.Written.{N, Module, Tree}
use Rattle.bed_read.specs.Factored.{rule, action, factored}
use Rattle.bed_read.specs.Tables as table
use Rattle.bed_read.specs.Tables.{tables, read}

a-is_name : is_name (97 ∷ []) ≡ true
unfolding fixed_word fixed_words reserved_words marks
a-is_name = refl

abbrev a_name : Token
a_name = record { kind = kind.Name (record { bytes = 97 ∷ []; at = 0 }); at = 0 }

abbrev a_number : ℕ → Token
a_number n = record { kind = kind.Number n; at = 0 }

below_82 : (c : ℕ) → nat_lt (suc (suc (suc c))) 85 ≡ true → c < 82
below_82 c h = let z : suc (suc (suc c)) < 85 = ltb-true _ _ h in omega arith

lexeme : (c : ℕ) → nat_lt c 85 ≡ true → (t : Token) × (class t ≡ c) × IsLexeme t
lexeme zero h = (a_name, refl, a-is_name)
lexeme (suc zero) h = (a_number 0, refl, lit< tt)
lexeme (suc (suc zero)) h = (a_number 4097, refl, lit< tt)
lexeme (suc (suc (suc c))) h = (record { kind = kind.Word c; at = 0 }, simp unary_clauses refl, below_82 c h)

nullables : (n : N) → (not (nullable factored tables (rule n)) || table.nullables n) ≡ true
nullables Module = refl
nullables _ = refl

first_in : (n : N) → subset (first factored tables (rule n)) (table.firsts n) ≡ true
first_in Module = refl
first_in _ = refl

follow_last_in : (n : N) → subset (follow_last factored tables (rule n)) (table.follow_lasts n) ≡ true
follow_last_in Module = refl
follow_last_in _ = refl

ends : (n : N) → has (table.follow_lasts n) end_class ≡ false
ends Module = refl
ends _ = refl

decides : (n : N) → is_ll1 factored tables (rule n) ≡ true
decides Module = refl
decides _ = refl

below : (n : N) → left_below factored tables (Some (table.rank n)) (rule n) ≡ true
below Module = refl
below _ = refl

ranked : (n : N) → table.rank n < 7
ranked Module = lit< tt
ranked _ = lit< tt

productive : (n : N) → is_lower factored tables (table.height n) (rule n) ≡ true
productive Module = refl
productive _ = refl

pub certified : IsLl1 factored tables
certified = record { nullables = nullables; firsts = first_in; follow_lasts = follow_last_in; ends = ends; decides = decides; below = below; ranked = ranked; lexeme = lexeme; productive = productive }

-- how a nonterminal is read, by its production
pub by_rule : (n : N) (s : List Token) (a : Outcome Token Which (Tree n)) → outcome_map (action n) (read_rhs factored tables read (rule n) s) ≡ a → read n s ≡ a
by_rule n s a h = reading.by_rule factored tables certified n s a h

-- the same for a call in tail position
pub gives_by : (n : N) (s : List Token) (X : Type 0) (view : X → Tree n × List Token) (result : Result X (Refusal Token Which)) (a : Outcome Token Which (Tree n)) → outcome_map (action n) (read_rhs factored tables read (rule n) s) ≡ a → Gives view result a → Gives view result (read n s)
gives_by n s X view result a h g = reading.gives_by factored tables certified n s X view result a h g
