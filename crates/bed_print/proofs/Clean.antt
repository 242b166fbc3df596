-- Texts within the limits, production by production, and the texts that are printed from their values.
use Rattle.std.proofs.Common.{◌≡◌, ℕ, ◌+◌, Bool, true, false, ◌&&◌, nat_le, nat_lt, cond, List, [], ◌∷◌, ◌++◌, map, Option, None, inl, inr, refl, sym, ap, ◌∙◌, subst, arith}
use Rattle.std.proofs.lemmas.Bool.Decides.{nat_tests}
use Rattle.std.proofs.lemmas.Bool.{and_parts}
use Rattle.bed_grammar.specs.Grammar.{Rhs, token, empty, seq, alt, ref, Value, Marked, Derives, shift, epsilon, sequence, left, right, expand, Spells, tokens_of, unmarked, IsUnmarked}
use Rattle.bed_grammar.proofs.Sets.{tokens_of-append, unmarked_parts}
use Rattle.bed_lang.specs.declared.limit.Which.{Which}
use Rattle.bed_lex.specs.declared.token.Token.{Token}
use Rattle.bed_lex.specs.declared.token.Kind.{Kind}
use Rattle.bed_lex.specs.declared.token.Kind.TheVariants as kind
use Rattle.bed_read.specs.Classes.{class, kind_class, IsLexeme, IsKindOfText}
use Rattle.bed_read.specs.Written.{N, Tree, written, written_rule, written_action}
use Rattle.bed_print.proofs.Places.{bare_kind}
use Rattle.bed_print.proofs.Lexing.{AreKinds}
use Rattle.bed_print.proofs.Nonterminals.{bare, placed, bare_token, bare_value, spell, canonical, spell_value}

abbrev pub Text : Type 0
Text = Marked Token Which

-- tokens that a text can have
abbrev pub AreLexemes : List Token → Type 0
AreLexemes [] = Unit {0}
AreLexemes (t ∷ ts) = IsLexeme t × AreLexemes ts

lexemes-append : (ts us : List Token) → AreLexemes (ts ++ us) → AreLexemes ts × AreLexemes us
lexemes-append [] us h = (tt, h)
lexemes-append (t ∷ ts) us h = let r = lexemes-append ts us h.1 in ((h.0, r.0), r.1)

pub kinds-append : (ks ls : List Kind) → AreKinds ks → AreKinds ls → AreKinds (ks ++ ls)
kinds-append [] ls h g = g
kinds-append (k ∷ ks) ls h g = (h.0, kinds-append ks ls h.1 g)

-- ---- a value, where P is known of the nonterminals' trees and no limit is passed

module _ (P : (n : N) → Tree n → Type 0) where
  abbrev pub Clean : (g : Rhs N Which) → Value Token Tree g → Type 0
  Clean (token c m) t = (m ≡ None) × (class t ≡ c) × IsLexeme t
  Clean empty v = Unit {0}
  Clean (seq a b) v = Clean a v.0 × Clean b v.1
  Clean (alt a b) (inl x) = Clean a x
  Clean (alt a b) (inr x) = Clean b x
  Clean (ref n) v = P n v

  -- what a text within the limits says of its tree
  abbrev pub Says : (n : N) → Text → Tree n → Type 0
  Says n p v = IsUnmarked p → AreLexemes (tokens_of p) → P n v

  pub clean : (g : Rhs N Which) (p : Text) (v : Value Token Tree g) → Spells written Says g p v → IsUnmarked p → AreLexemes (tokens_of p) → Clean g v
  clean (token c m) p v s u l =
      let unmarked' : IsUnmarked ((v, m) ∷ []) = subst IsUnmarked s.0 u in
      let lexemes : AreLexemes (v ∷ []) = subst (λ z. AreLexemes (tokens_of z)) s.0 l in
      (unmarked'.0, s.1, lexemes.0)
  clean empty p v s u l = tt
  clean (seq a b) p v s u l =
      let (p1, p2, e, s1, s2) = s in
      let parts : IsUnmarked p1 × IsUnmarked p2 = unmarked_parts p1 p2 (subst IsUnmarked e u) in
      let lexemes : AreLexemes (tokens_of p1) × AreLexemes (tokens_of p2) =
      lexemes-append (tokens_of p1) (tokens_of p2) (subst AreLexemes (ap tokens_of e ∙ tokens_of-append p1 p2) l) in
      (clean a p1 v.0 s1 parts.0 lexemes.0, clean b p2 v.1 s2 parts.1 lexemes.1)
  clean (alt a b) p (inl x) s u l = clean a p x s u l
  clean (alt a b) p (inr x) s u l = clean b p x s u l
  clean (ref n) p v s u l = s u l

-- ---- printed texts

-- tokens of these kinds, all at place 0 and within the limits
abbrev pub text_at_zero : List Kind → Text
text_at_zero ks = unmarked (map placed ks)

-- tokens of these kinds are a text of a right side
pub record Prints (g : Rhs N Which) (ks : List Kind) (v : Value Token Tree g) : Type 0 where
  pub text : Derives written g (text_at_zero ks) v
  pub kinds : AreKinds ks

pub placed-append : (ks ls : List Kind) → text_at_zero (ks ++ ls) ≡ text_at_zero ks ++ text_at_zero ls
placed-append [] ls = refl
placed-append (k ∷ ks) ls = ap (λ z. (placed k, None) ∷ z) (placed-append ks ls)

pub prints_seq : (a b : Rhs N Which) (ks ls : List Kind) (x : Value Token Tree a) (y : Value Token Tree b) → Prints a ks x → Prints b ls y
    → Prints (seq a b) (ks ++ ls) (x, y)
prints_seq a b ks ls x y p q = record {
  text = subst (λ z. Derives written (seq a b) z (x, y)) (sym (placed-append ks ls)) (sequence a b (text_at_zero ks) (text_at_zero ls) x y p.text q.text);
  kinds = kinds-append ks ls p.kinds q.kinds;
}

pub class-bare : (k : Kind) → kind_class (bare_kind k) ≡ kind_class k
class-bare (kind.Name x) = refl
class-bare (kind.Number n) = refl
class-bare (kind.Word w) = refl
class-bare (kind.Fresh n) = refl

-- a token of class c is the one that is printed there
pub canonical_is : (c : ℕ) (k : Kind) → IsKindOfText k → kind_class k ≡ c → canonical c k ≡ k
canonical_is c (kind.Name x) is e = subst (λ z. canonical z (kind.Name x) ≡ kind.Name x) e refl
canonical_is c (kind.Number n) is e = subst (λ z. canonical z (kind.Number n) ≡ kind.Number n) e (by (nat_le n 4096))
  where
    by : (b : Bool) → canonical (cond b 1 2) (kind.Number n) ≡ kind.Number n
    by true = refl
    by false = refl
canonical_is c (kind.Word w) is e = subst (λ z. canonical z (kind.Word w) ≡ kind.Word w) e (rw (no_name w) (ap (λ z. kind.Word z) (omega arith)))
  where
    no_name : (w : ℕ) → nat_lt (w + 3) 3 ≡ false
    no_name w = grind (arith, nat_tests)
canonical_is c (kind.Fresh n) is e = absurd is

pub prints_token : (c : ℕ) (m : Option Which) (k : Kind) → m ≡ None → kind_class k ≡ c → IsKindOfText k → Prints (token c m) (k ∷ []) (placed k)
prints_token c m k e f is = record {
  text = subst (λ z. Derives written (token c z) ((placed k, None) ∷ []) (placed k)) (sym e) (shift c None (placed k) (class-bare k ∙ f));
  kinds = (is, tt);
}

pub prints_empty : Prints empty [] tt
prints_empty = record { text = epsilon; kinds = tt }

pub prints_left : (a b : Rhs N Which) (ks : List Kind) (x : Value Token Tree a) → Prints a ks x → Prints (alt a b) ks (inl x)
prints_left a b ks x p = record { text = left a b (text_at_zero ks) x p.text; kinds = p.kinds }

pub prints_right : (a b : Rhs N Which) (ks : List Kind) (x : Value Token Tree b) → Prints b ks x → Prints (alt a b) ks (inr x)
prints_right a b ks x p = record { text = right a b (text_at_zero ks) x p.text; kinds = p.kinds }

-- a nonterminal is printed as its production
pub prints_rule : (n : N) (ks : List Kind) (v : Value Token Tree (written_rule n)) → Prints (written_rule n) ks v → Prints (ref n) ks (written_action n v)
prints_rule n ks v p = record { text = expand n (text_at_zero ks) v p.text; kinds = p.kinds }

module _ (P : (n : N) → Tree n → Type 0) (is_plain : N → Bool)
    (prints : (n : N) → is_plain n ≡ true → (v : Tree n) → P n v → Prints (ref n) (spell n v) (bare n v)) where
  -- all nonterminals of a right side are printed as they are spelled, as far as the value chooses them
  abbrev pub plain : (g : Rhs N Which) → Value Token Tree g → Bool
  plain (token c m) v = true
  plain empty v = true
  plain (seq a b) v = plain a v.0 && plain b v.1
  plain (alt a b) (inl x) = plain a x
  plain (alt a b) (inr x) = plain b x
  plain (ref n) v = is_plain n

  -- the value of a right side, printed part by part
  pub prints_value : (g : Rhs N Which) (v : Value Token Tree g) → plain g v ≡ true → Clean P g v → Prints g (spell_value g v) (bare_value g v)
  prints_value (token c m) v is k =
      subst (λ z. Prints (token c m) (z ∷ []) (bare_token v)) (sym (canonical_is c v.kind k.2 k.1)) (prints_token c m v.kind k.0 k.1 k.2)
  prints_value empty v is k = prints_empty
  prints_value (seq a b) v is k =
      let both : (plain a v.0 ≡ true) × (plain b v.1 ≡ true) = and_parts (plain a v.0) (plain b v.1) is in
      prints_seq a b (spell_value a v.0) (spell_value b v.1) (bare_value a v.0) (bare_value b v.1) (prints_value a v.0 both.0 k.0) (prints_value b v.1 both.1 k.1)
  prints_value (alt a b) (inl x) is k = prints_left a b (spell_value a x) (bare_value a x) (prints_value a x is k)
  prints_value (alt a b) (inr x) is k = prints_right a b (spell_value b x) (bare_value b x) (prints_value b x is k)
  prints_value (ref n) v is k = prints n is v k
