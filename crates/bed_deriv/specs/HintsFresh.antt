-- Hints without a fresh variable: what a search through a condition needs besides, since it follows them into the state.
use Rattle.std.specs.Prelude.{Bool, true, ◌&&◌, Option, Some, None}
use Rattle.bed_lang.specs.declared.word.Word.{Word}
use Rattle.bed_lang.specs.declared.module.Hint.{Hint}
use Rattle.bed_lang.specs.declared.module.Hint.TheVariants.{Unfold, Fold, Append, Divide, Merge, Bytes, Word as WordHint, Cell, Uncell, Drop, Claim, When, Give}
use Rattle.bed_lang.specs.declared.condition.Cond.{Cond}
use Rattle.bed_lang.specs.declared.condition.Placed.{Placed}
use Rattle.bed_deriv.specs.Fresh.{every, known_word, known_arg, known_pure}

abbrev pub unfresh_option : Option Word → Bool
unfresh_option None = true
unfresh_option (Some w) = known_word 0 w

abbrev pub unfresh_hint : Hint → Bool
unfresh_hint (Unfold name at) = unfresh_option at
unfresh_hint (Fold name args number) = every (known_arg 0) args
unfresh_hint (Append a) = known_word 0 a
unfresh_hint (Divide a b) = known_word 0 a && known_word 0 b
unfresh_hint (Merge a b) = known_word 0 a && known_word 0 b
unfresh_hint (Bytes a) = known_word 0 a
unfresh_hint (WordHint a) = known_word 0 a
unfresh_hint (Cell a) = known_word 0 a
unfresh_hint (Uncell a) = known_word 0 a
unfresh_hint (Drop a) = known_word 0 a
unfresh_hint (Claim p) = known_pure 0 p
unfresh_hint (When p) = known_pure 0 p
unfresh_hint (Give name a) = known_arg 0 a

abbrev pub unfresh_placed : Placed → Bool
unfresh_placed p = unfresh_hint p.hint

-- every hint of a condition is without one
abbrev pub unfresh_hints : Cond → Bool
unfresh_hints c = every unfresh_placed c.hints
