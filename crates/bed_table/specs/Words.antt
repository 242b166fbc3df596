-- The places of locals in a frame, and relative jumps.
use Rattle.std.specs.Prelude.{ℕ, ◌+◌, ◌-◌, ◌*◌, List, [], ◌∷◌, length, bytes_eq, if◌then◌else◌}
use Rattle.bed_lang.specs.declared.word.Name.{Name}
use Rattle.bed_lang.specs.Numbers.{wrap}

-- what a relative jump adds to the address of the next instruction to come to a target
abbrev pub displacement : ℕ → ℕ → ℕ
displacement next target = wrap (target + (4294967296 - wrap next))

-- the number of a local, from 0: its first place in the list of the arguments and then the other locals.
-- A name that isn't there has the number after the last.
abbrev pub number_of : List Name → List ℕ → ℕ
number_of [] name = 0
number_of (n ∷ ns) name = if bytes_eq n.bytes name then 0 else 1 + number_of ns name

-- where a local stands in its function's frame: word 0 is the return address, and local i is word 1 + i
abbrev pub slot : List Name → List ℕ → ℕ
slot locals name = wrap (4 + 4 * number_of locals name)

-- where the frames of callees begin: after the return address and the locals
abbrev pub call_area : List Name → ℕ
call_area locals = wrap (4 + 4 * length locals)
