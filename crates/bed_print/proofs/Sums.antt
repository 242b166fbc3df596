-- Words: where they can be written within the limits, they can be written as they are printed.
use Rattle.std.proofs.Common.{◌≡◌, ℕ, suc, zero, ◌+◌, ◌*◌, ◌<◌, ◌≤◌, ◌^◌, Bool, true, false, refl, sym, ap, ◌∙◌, arith}
use Rattle.bed_lang.specs.declared.word.Name.{Name}
use Rattle.bed_lang.specs.declared.word.Var.TheVariants as var
use Rattle.bed_lang.specs.declared.word.Word.{Word, Number, Var as WordVar, Label, Times, out-Word}
use Rattle.bed_lang.specs.declared.word.Word.TheOpen.{Word-F}
use Rattle.bed_lang.specs.declared.word.Word.TheVariants.{outs-Number, outs-Var, outs-Label, outs-Add, outs-Sub, outs-Times}
use Rattle.bed_read.specs.declared.parts.Piece.{Piece}
use Rattle.bed_read.specs.declared.parts.Piece.TheVariants as piece
use Rattle.bed_read.specs.Classes.{is_name}
use Rattle.bed_read.specs.Trees.{added, joined, word_of, place_of}
use Rattle.bed_print.proofs.Places.{bare_name, bare_word}
use Rattle.bed_print.proofs.WordTrees.{bare_word-Number, bare_word-Var, bare_word-Label, bare_word-Times, bare_word-added}

-- A word can be written as a sum of at most k + 1 parts inside n more brackets.
pub data Fits : Word → ℕ → ℕ → Type 0 where
  number : (v n k : ℕ) → v < 2 ^ 32 → Fits (Number v) n k
  named : (x : Name) (n k : ℕ) → is_name x.bytes ≡ true → Fits (WordVar (var.Named x)) n k
  old : (x : Name) (n k : ℕ) → is_name x.bytes ≡ true → Fits (WordVar (var.Old x)) n k
  answer : (at n k : ℕ) → Fits (WordVar (var.Answer at)) n k
  label : (x : Name) (n k : ℕ) → is_name x.bytes ≡ true → Fits (Label x) n k
  open_sum : (a b : Word) (s : Bool) (n k : ℕ) → Fits a n k → Fits b n 0 → Fits (added a (s, b)) n (suc k)
  closed_sum : (a b : Word) (s : Bool) (n : ℕ) → Fits a n 254 → Fits b n 0 → Fits (added a (s, b)) (suc n) 0
  times : (v : ℕ) (a : Word) (n k : ℕ) → v < 2 ^ 32 → Fits a n 255 → Fits (Times v a) (suc n) k

-- with more parts, or inside more brackets, it can be written too
pub fits_more : (w : Word) (n j : ℕ) → Fits w n j → (m k : ℕ) → j ≤ 255 → k ≤ 255 → n * 256 + j ≤ m * 256 + k → Fits w m k
fits_more _ _ _ (number v n j h) m k a b c = number v m k h
fits_more _ _ _ (named x n j h) m k a b c = named x m k h
fits_more _ _ _ (old x n j h) m k a b c = old x m k h
fits_more _ _ _ (answer at n j) m k a b c = answer at m k
fits_more _ _ _ (label x n j h) m k a b c = label x m k h
fits_more _ _ _ (open_sum x y s n j p q) zero zero a b c = absurd (omega (arith, c))
fits_more _ _ _ (open_sum x y s n j p q) (suc m) zero a b c =
    closed_sum x y s m (fits_more x n j p m 254 (omega (arith, a)) (omega arith) (omega (arith, a, c)))
    (fits_more y n 0 q m 0 (omega arith) (omega arith) (omega (arith, a, c)))
fits_more _ _ _ (open_sum x y s n j p q) m (suc k) a b c =
    open_sum x y s m k (fits_more x n j p m k (omega (arith, a)) (omega (arith, b)) (omega (arith, c)))
    (fits_more y n 0 q m 0 (omega arith) (omega arith) (omega (arith, b, c)))
fits_more _ _ _ (closed_sum x y s n p q) zero zero a b c = absurd (omega (arith, c))
fits_more _ _ _ (closed_sum x y s n p q) (suc m) zero a b c =
    closed_sum x y s m (fits_more x n 254 p m 254 (omega arith) (omega arith) (omega (arith, c)))
    (fits_more y n 0 q m 0 (omega arith) (omega arith) (omega (arith, c)))
fits_more _ _ _ (closed_sum x y s n p q) m (suc k) a b c =
    open_sum x y s m k (fits_more x n 254 p m k (omega arith) (omega (arith, b)) (omega (arith, c)))
    (fits_more y n 0 q m 0 (omega arith) (omega arith) (omega (arith, b, c)))
fits_more _ _ _ (times v x n j h p) zero k a b c = absurd (omega (arith, b, c))
fits_more _ _ _ (times v x n j h p) (suc m) k a b c = times v x m k h (fits_more x n 255 p m 255 (omega arith) (omega arith) (omega (arith, b, c)))

-- ---- the piece of a word at place 0

abbrev pub layer_piece : Word-F Word → Word → Piece
layer_piece (Word-F.Var (var.Named x)) w = piece.Name (bare_name x)
layer_piece _ w = piece.Word 0 (bare_word w)

abbrev pub piece_of : Word → Piece
piece_of w = layer_piece (out-Word w) w

pub piece-Number : (v : ℕ) → piece_of (Number v) ≡ piece.Word 0 (Number v)
piece-Number v = ap (λ f. layer_piece f (Number v)) (outs-Number v) ∙ ap (piece.Word 0) (bare_word-Number v)

pub piece-Named : (x : Name) → piece_of (WordVar (var.Named x)) ≡ piece.Name (bare_name x)
piece-Named x = ap (λ f. layer_piece f (WordVar (var.Named x))) (outs-Var (var.Named x))

pub piece-Old : (x : Name) → piece_of (WordVar (var.Old x)) ≡ piece.Word 0 (WordVar (var.Old (bare_name x)))
piece-Old x = ap (λ f. layer_piece f (WordVar (var.Old x))) (outs-Var (var.Old x)) ∙ ap (piece.Word 0) (bare_word-Var (var.Old x))

pub piece-Answer : (at : ℕ) → piece_of (WordVar (var.Answer at)) ≡ piece.Word 0 (WordVar (var.Answer 0))
piece-Answer at = ap (λ f. layer_piece f (WordVar (var.Answer at))) (outs-Var (var.Answer at)) ∙ ap (piece.Word 0) (bare_word-Var (var.Answer at))

pub piece-Label : (x : Name) → piece_of (Label x) ≡ piece.Word 0 (Label (bare_name x))
piece-Label x = ap (λ f. layer_piece f (Label x)) (outs-Label x) ∙ ap (piece.Word 0) (bare_word-Label x)

pub piece-Times : (v : ℕ) (a : Word) → piece_of (Times v a) ≡ piece.Word 0 (Times v (bare_word a))
piece-Times v a = ap (λ f. layer_piece f (Times v a)) (outs-Times v a) ∙ ap (piece.Word 0) (bare_word-Times v a)

pub piece-added : (a b : Word) (s : Bool) → piece_of (added a (s, b)) ≡ piece.Word 0 (bare_word (added a (s, b)))
piece-added a b true = ap (λ f. layer_piece f (added a (true, b))) (outs-Add a b)
piece-added a b false = ap (λ f. layer_piece f (added a (false, b))) (outs-Sub a b)

layer_at_zero : (f : Word-F Word) (w : Word) → place_of (layer_piece f w) ≡ 0
layer_at_zero (Word-F.Number v) w = refl
layer_at_zero (Word-F.Var (var.Named x)) w = refl
layer_at_zero (Word-F.Var (var.Old x)) w = refl
layer_at_zero (Word-F.Var (var.Answer at)) w = refl
layer_at_zero (Word-F.Var (var.Fresh n)) w = refl
layer_at_zero (Word-F.Var var.Hole) w = refl
layer_at_zero (Word-F.Label x) w = refl
layer_at_zero (Word-F.Add a b) w = refl
layer_at_zero (Word-F.Sub a b) w = refl
layer_at_zero (Word-F.Times n a) w = refl

pub piece_at_zero : (w : Word) → place_of (piece_of w) ≡ 0
piece_at_zero w = layer_at_zero (out-Word w) w

-- the piece of a word that fits is that word
pub piece_is : (w : Word) (n k : ℕ) → Fits w n k → word_of (piece_of w) ≡ bare_word w
piece_is _ _ _ (number v n k h) = ap word_of (piece-Number v) ∙ sym (bare_word-Number v)
piece_is _ _ _ (named x n k h) = ap word_of (piece-Named x) ∙ sym (bare_word-Var (var.Named x))
piece_is _ _ _ (old x n k h) = ap word_of (piece-Old x) ∙ sym (bare_word-Var (var.Old x))
piece_is _ _ _ (answer at n k) = ap word_of (piece-Answer at) ∙ sym (bare_word-Var (var.Answer at))
piece_is _ _ _ (label x n k h) = ap word_of (piece-Label x) ∙ sym (bare_word-Label x)
piece_is _ _ _ (open_sum a b s n k p q) = ap word_of (piece-added a b s)
piece_is _ _ _ (closed_sum a b s n p q) = ap word_of (piece-added a b s)
piece_is _ _ _ (times v a n k h p) = ap word_of (piece-Times v a) ∙ sym (bare_word-Times v a)

-- one more part on top of a piece
pub joined_piece : (a b : Word) (s : Bool) → word_of (piece_of a) ≡ bare_word a → word_of (piece_of b) ≡ bare_word b
    → joined (piece_of a) (s, word_of (piece_of b)) ≡ piece_of (added a (s, b))
joined_piece a b s e f =
    ap (λ z. piece.Word z (added (word_of (piece_of a)) (s, word_of (piece_of b)))) (piece_at_zero a)
    ∙ ap (λ z. piece.Word 0 (added z (s, word_of (piece_of b)))) e
    ∙ ap (λ z. piece.Word 0 (added (bare_word a) (s, z))) f
    ∙ sym (piece-added a b s ∙ ap (piece.Word 0) (bare_word-added a b s))
