-- Printed texts of the grammar's smallest parts.
use Rattle.std.proofs.Common.{◌≡◌, ℕ, ◌+◌, ◌-◌, ◌<◌, ◌^◌, Bool, true, false, ◌&&◌, nat_eq, nat_le, nat_lt, cond, List, [], ◌∷◌, ◌++◌, Option, None, inl, inr, refl, sym, ap, subst, arith}
use Rattle.std.proofs.lemmas.Bool.Decides.{nat_tests}
use Rattle.std.proofs.lemmas.Bool.{and_parts}
use Rattle.bed_grammar.specs.Grammar.{token, empty, ref}
use Rattle.bed_grammar.proofs.Sets.{eq_is}
use Rattle.bed_lang.specs.declared.word.Name.{Name}
use Rattle.bed_lang.specs.declared.word.Word.{Word}
use Rattle.bed_lang.specs.declared.limit.Which.{Which}
use Rattle.bed_lang.specs.declared.limit.Which.TheVariants as limit
use Rattle.bed_lex.specs.declared.token.Kind.{Kind}
use Rattle.bed_lex.specs.declared.token.Kind.TheVariants as kind
use Rattle.bed_read.specs.declared.parts.Piece.{Piece}
use Rattle.bed_read.specs.Classes.{is_name, PLUS, MINUS}
use Rattle.bed_read.specs.Trees.{word_of}
use Rattle.bed_read.specs.Written.{past, Nam, Num, Sign, Part, Sums}
use Rattle.bed_print.specs.Kinds.{fixed}
use Rattle.bed_print.proofs.Places.{bare_name}
use Rattle.bed_print.proofs.Nonterminals.{placed, sign_kind}
use Rattle.bed_print.proofs.Clean.{Prints, prints_seq, prints_token, prints_empty, prints_left, prints_right, prints_rule}
use Rattle.bed_print.proofs.Bools.{lt_is}

-- a class of a fixed word
abbrev pub is_fixed : ℕ → Bool
is_fixed c = nat_eq (c - 3 + 3) c && nat_lt (c - 3) 82

pub prints_fixed : (c : ℕ) (m : Option Which) → is_fixed c ≡ true → m ≡ None → Prints (token c m) (fixed c ∷ []) (placed (fixed c))
prints_fixed c m is e =
    let h = and_parts (nat_eq (c - 3 + 3) c) (nat_lt (c - 3) 82) is in
    prints_token c m (fixed c) e (eq_is (c - 3 + 3) c h.0) (lt_is (c - 3) 82 h.1)

pub prints_name : (m : Option Which) (x : Name) → m ≡ None → is_name x.bytes ≡ true → Prints (ref (Nam m)) (kind.Name x ∷ []) (bare_name x)
prints_name m x e is = prints_rule (Nam m) (kind.Name x ∷ []) (placed (kind.Name x)) (prints_token 0 m (kind.Name x) e refl is)

pub prints_number : (m : Option Which) (v : ℕ) → m ≡ None → v < 2 ^ 32 → Prints (ref (Num m)) (kind.Number v ∷ []) (0, v)
prints_number m v e is = by (nat_le v 4096) refl
  where
    by : (b : Bool) → nat_le v 4096 ≡ b → Prints (ref (Num m)) (kind.Number v ∷ []) (0, v)
    by true f = prints_rule (Num m) (kind.Number v ∷ []) (inl (placed (kind.Number v)))
        (prints_left (token 1 m) (token 2 m) (kind.Number v ∷ []) (placed (kind.Number v)) (prints_token 1 m (kind.Number v) e (ap (λ b. cond b 1 2) f) is))
    by false f = prints_rule (Num m) (kind.Number v ∷ []) (inr (placed (kind.Number v)))
        (prints_right (token 1 m) (token 2 m) (kind.Number v ∷ []) (placed (kind.Number v)) (prints_token 2 m (kind.Number v) e (ap (λ b. cond b 1 2) f) is))

pub prints_sign : (b : Bool) → Prints (ref Sign) (sign_kind b ∷ []) b
prints_sign true = prints_rule Sign (fixed PLUS ∷ []) (inl (placed (fixed PLUS))) (prints_left (token PLUS None) (token MINUS None) _ _ (prints_fixed PLUS None refl refl))
prints_sign false = prints_rule Sign (fixed MINUS ∷ []) (inr (placed (fixed MINUS))) (prints_right (token PLUS None) (token MINUS None) _ _ (prints_fixed MINUS None refl refl))

-- within a limit
pub not_past : (w : Which) (k : ℕ) → 0 < k → past w k ≡ None
not_past w k h = rw (some_left k h) refl
  where
    some_left : (k : ℕ) → 0 < k → nat_eq k 0 ≡ false
    some_left k h = grind (arith, nat_tests)

-- no more parts of a sum
pub no_more_parts : (k n : ℕ) → Prints (ref (Sums k n)) [] []
no_more_parts k n = prints_rule (Sums k n) [] (inr tt) (prints_right _ empty [] tt prints_empty)

-- one more part of a sum
pub more_parts : (k j n : ℕ) → k ≡ j + 1 → (s : Bool) (ks ls : List Kind) (p : Piece) (bs : List (Bool × Word))
    → Prints (ref (Part (past limit.Terms k) n)) ks p → Prints (ref (Sums j n)) ls bs
    → Prints (ref (Sums k n)) (sign_kind s ∷ (ks ++ ls)) ((s, word_of p) ∷ bs)
more_parts k j n e s ks ls p bs part rest =
    let left : k - 1 ≡ j = omega (arith, e) in
    let more : Prints (ref (Sums (k - 1) n)) ls bs = subst (λ z. Prints (ref (Sums z n)) ls bs) (sym left) rest in
    prints_rule (Sums k n) (sign_kind s ∷ (ks ++ ls)) (inl (s, (p, bs)))
    (prints_left _ empty _ _ (prints_seq (ref Sign) _ (sign_kind s ∷ []) (ks ++ ls) s (p, bs) (prints_sign s)
    (prints_seq (ref (Part (past limit.Terms k) n)) (ref (Sums (k - 1) n)) ks ls p bs part more)))
