use Rattle.std.proofs.Common.{◌≡◌, drop, map}
use Rattle.std.specs.Prelude.{find}
use Rattle.bed_lex.specs.Tokens.{stands}
use Rattle.bed_lex.proofs.front.first_mark.Given as goal

abbrev pub invariant-loop-mark : goal.invariant-loop-mark
invariant-loop-mark l = find (stands l.text) (map (λ m. m.now) (drop l.mark-index l.marks)) ≡ find (stands l.text) (map (λ m. m.now) l.marks)
