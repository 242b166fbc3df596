use Rattle.std.proofs.Common.{◌≡◌, ◌+◌, ◌*◌, ◌<◌, ◌++◌, drop}
use Rattle.bed_lang.specs.Numbers.{wrap}
use Rattle.bed_table.specs.Words.{number_of, slot}
use Rattle.bed_macro.proofs.sites.slot_in.Given as goal

abbrev pub invariant-loop-param : goal.invariant-loop-param
invariant-loop-param l =
    (l.slot < 4294967296)
    × (wrap (l.slot + 4 * number_of (drop l.param-index l.params ++ l.locals) l.name.bytes) ≡ slot (l.params ++ l.locals) l.name.bytes)

abbrev pub invariant-loop-local : goal.invariant-loop-local
invariant-loop-local l =
    (l.slot < 4294967296)
    × (wrap (l.slot + 4 * number_of (drop l.local-index l.locals) l.name.bytes) ≡ slot (l.params ++ l.locals) l.name.bytes)
