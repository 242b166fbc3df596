-- One token of foresight decides the grammar of proof texts.
use Rattle.std.proofs.Common.{◌≡◌, ℕ, zero, suc, ◌+◌, ◌-◌, ◌<◌, ◌≤◌, nat_lt, Bool, true, false, List, [], ◌∷◌, Some, refl, not, ◌||◌, lit<, arith, subst}
use native.Mathlib.Numerals.{unary_clauses}
use Rattle.std.specs.Prelude.{codes}
use Rattle.std.proofs.lemmas.Bool.{ltb-true}
use Rattle.std.proofs.lemmas.Bool.Decides.{nat_tests}
use Rattle.bed_grammar.specs.Tables.{IsLl1, is_lower, nullable, first, follow_last, subset, has, end_class, is_ll1, left_below}
use Rattle.bed_lex.specs.Tokens.{fixed_word}
use Rattle.bed_lex.specs.Words.{fixed_words, reserved_words, marks}
use Rattle.bed_lex.specs.declared.token.Token.{Token}
use Rattle.bed_lex.specs.declared.token.Kind.TheVariants as kind
use Rattle.bed_proof_text.specs.Spellings.{rule_of_word, rule_words, edge_of_word}
use Rattle.bed_proof_text.specs.Classes.{class, name_class, is_name, IsLexeme}
use Rattle.bed_proof_text.specs.Written.{N, Node, Children, production, nodes}
use Rattle.bed_proof_text.specs.Tables as table
use Rattle.bed_proof_text.specs.Tables.{tables}

a_name : List ℕ → Token
a_name bytes = record { kind = kind.Name (record { bytes = bytes; at = 0 }); at = 0 }

-- a token of a class that a text can have
abbrev Sample : ℕ → Type 0
Sample c = (t : Token) × (class t ≡ c) × IsLexeme t

named : (bytes : List ℕ) (c : ℕ) → name_class bytes ≡ c → is_name bytes ≡ true → Sample c
named bytes c e i = (record { kind = kind.Name (record { bytes = bytes; at = 0 }); at = 0 }, e, i)

plain_class : name_class (97 ∷ []) ≡ 0
unfolding name_class rule_of_word rule_words edge_of_word
plain_class = refl

rule_class : name_class (codes "hyp") ≡ 86
unfolding name_class rule_of_word rule_words edge_of_word
rule_class = refl

chain_class : name_class (codes "chain") ≡ 87
unfolding name_class rule_of_word rule_words edge_of_word
chain_class = refl

proofs_class : name_class (codes "proofs") ≡ 88
unfolding name_class rule_of_word rule_words edge_of_word
proofs_class = refl

condition_class : name_class (codes "condition") ≡ 89
unfolding name_class rule_of_word rule_words edge_of_word
condition_class = refl

edge_class : name_class (codes "h") ≡ 90
unfolding name_class rule_of_word rule_words edge_of_word
edge_class = refl

z_class : name_class (codes "z") ≡ 91
unfolding name_class rule_of_word rule_words edge_of_word
z_class = refl

plain_name : is_name (97 ∷ []) ≡ true
unfolding fixed_word fixed_words reserved_words marks
plain_name = refl

rule_name : is_name (codes "hyp") ≡ true
unfolding fixed_word fixed_words reserved_words marks
rule_name = refl

chain_name : is_name (codes "chain") ≡ true
unfolding fixed_word fixed_words reserved_words marks
chain_name = refl

proofs_name : is_name (codes "proofs") ≡ true
unfolding fixed_word fixed_words reserved_words marks
proofs_name = refl

condition_name : is_name (codes "condition") ≡ true
unfolding fixed_word fixed_words reserved_words marks
condition_name = refl

edge_name : is_name (codes "h") ≡ true
unfolding fixed_word fixed_words reserved_words marks
edge_name = refl

z_name : is_name (codes "z") ≡ true
unfolding fixed_word fixed_words reserved_words marks
z_name = refl

low : (c : ℕ) → c < 85 → Sample c
low zero h = named (97 ∷ []) 0 plain_class plain_name
low (suc zero) h = (record { kind = kind.Number 1; at = 0 }, refl, lit< tt)
low (suc (suc zero)) h = (record { kind = kind.Number 0; at = 0 }, refl, lit< tt)
low (suc (suc (suc c))) h = (record { kind = kind.Word c; at = 0 }, simp unary_clauses refl, omega (arith, h))

high : (d : ℕ) → d < 7 → Sample (d + 85)
high zero h = (record { kind = kind.Fresh 0; at = 0 }, refl, lit< tt)
high (suc zero) h = named (codes "hyp") 86 rule_class rule_name
high (suc (suc zero)) h = named (codes "chain") 87 chain_class chain_name
high (suc (suc (suc zero))) h = named (codes "proofs") 88 proofs_class proofs_name
high (suc (suc (suc (suc zero)))) h = named (codes "condition") 89 condition_class condition_name
high (suc (suc (suc (suc (suc zero))))) h = named (codes "h") 90 edge_class edge_name
high (suc (suc (suc (suc (suc (suc zero)))))) h = named (codes "z") 91 z_class z_name
high (suc (suc (suc (suc (suc (suc (suc d))))))) h = absurd (omega (arith, h))

back_to : (c : ℕ) → 85 ≤ c → (c - 85) + 85 ≡ c
back_to c h = omega (arith, h)

lexeme : (c : ℕ) → nat_lt c 92 ≡ true → Sample c
lexeme c h = go (nat_lt c 85) refl
  where
    go : (b : Bool) → nat_lt c 85 ≡ b → Sample c
    go true e = low c (ltb-true _ _ e)
    go false e = let l : 85 ≤ c = grind (arith, nat_tests) in let u : c < 92 = ltb-true _ _ h in subst Sample (back_to c l) (high (c - 85) (omega arith))

nullables : (n : N) → (not (nullable nodes tables (production n)) || table.nullables n) ≡ true
nullables (Children zero) = refl
nullables (Children (suc n)) = refl
nullables _ = refl

first_in : (n : N) → subset (first nodes tables (production n)) (table.firsts n) ≡ true
first_in (Children zero) = refl
first_in (Children (suc n)) = refl
first_in _ = refl

follow_last_in : (n : N) → subset (follow_last nodes tables (production n)) (table.follow_lasts n) ≡ true
follow_last_in (Children zero) = refl
follow_last_in (Children (suc n)) = refl
follow_last_in _ = refl

ends : (n : N) → has (table.follow_lasts n) end_class ≡ false
ends (Node n) = refl
ends _ = refl

decides : (n : N) → is_ll1 nodes tables (production n) ≡ true
decides (Children zero) = refl
decides (Children (suc n)) = refl
decides _ = refl

below : (n : N) → left_below nodes tables (Some (table.rank n)) (production n) ≡ true
below (Children zero) = refl
below (Children (suc n)) = refl
below _ = refl

ranked : (n : N) → table.rank n < 4
ranked (Node n) = lit< tt
ranked _ = lit< tt

productive : (n : N) → is_lower nodes tables (table.height n) (production n) ≡ true
productive (Children zero) = refl
productive (Children (suc n)) = refl
productive _ = refl

pub certified : IsLl1 nodes tables
certified = record { nullables = nullables; firsts = first_in; follow_lasts = follow_last_in; ends = ends; decides = decides; below = below; ranked = ranked; lexeme = lexeme; productive = productive }
