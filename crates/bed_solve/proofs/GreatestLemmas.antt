-- Variables of sequences that are joined.
use Rattle.std.proofs.Common.{◌≡◌, List, [], ◌∷◌, ◌++◌, refl, ap}
use Rattle.bed_lang.specs.declared.form.Piece.{Piece}
use Rattle.bed_lang.specs.declared.form.Piece.TheVariants.{Element, Sequence}
use Rattle.bed_plain.specs.Solving.{piece_variables}

pub piece_variables-append : (ps qs : List Piece) → piece_variables (ps ++ qs) ≡ piece_variables ps ++ piece_variables qs
piece_variables-append [] qs = refl
piece_variables-append (Element f ∷ ps) qs = piece_variables-append ps qs
piece_variables-append (Sequence x ∷ ps) qs = ap (λ vs. x ∷ vs) (piece_variables-append ps qs)
