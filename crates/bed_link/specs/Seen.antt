-- What the code's own values stand for.
use Rattle.std.specs.Prelude.{◌≡◌, ℕ, ◌+◌, List, [], ◌∷◌, ◌++◌, map, is_some, Bool, Option, None, Some}
use Rattle.bed_lang.specs.declared.word.Name.{Name}
use Rattle.bed_lang.specs.declared.module.Function.{Function}
use Rattle.bed_lang.specs.declared.module.Module.{Module}
use Rattle.bed_names.specs.InScope.{InScope}
use Rattle.bed_names.specs.Tables.{number_of}
use Rattle.bed_table.specs.Layout.{is_among}
use Rattle.bed_table.specs.Code.{function_piece}
use Rattle.bed_link.specs.Parts as parts
use Rattle.bed_link.specs.declared.parts.Part.{Part}
use Rattle.bed_link.specs.declared.differing.Claim.{Claim}
use Rattle.bed_link.specs.declared.outside.Outside.{Outside}

abbrev pub module_of : InScope → Module
module_of s = s.«module»

abbrev pub pair_of : {T : Type 0} → Part T → T × ℕ
pair_of p = (p.item.now, p.number)

abbrev pub claim_of : Claim → parts.Claim
claim_of c = record { name = c.name.now; signature = c.signature.now; «module» = c.number }

abbrev pub outside_of : Outside → Name × ℕ
outside_of o = (o.name.now, o.address)

-- the address of a pair; 0 where there is none
abbrev pub address_or_none : Option (Name × ℕ) → ℕ
address_or_none None = 0
address_or_none (Some g) = g.1

-- a table knows the names of a list, and no other
abbrev pub Knows : List (List ℕ × ℕ) → List Name → Type 0
Knows table names = (x : List ℕ) → is_some (number_of table x) ≡ is_among names x

abbrev pub knows : List (List ℕ × ℕ) → Name → Bool
knows table x = is_some (number_of table x.bytes)

-- functions one right after the other from an address, with their names, addresses and whether they are exported
abbrev pub entries_from : ℕ → List Function → List (Name × ℕ × Bool)
entries_from at [] = []
entries_from at (f ∷ fs) = (f.name, at, f.exported) ∷ entries_from (at + (function_piece f).size) fs

-- the loops of functions one right after the other from an address, with the functions' numbers
-- a loop's function's number, and its head's address
abbrev pub loop_at : ℕ → ℕ → ℕ × ℕ
loop_at number head = (number, head)

abbrev pub loops_from : ℕ → ℕ → List Function → List (ℕ × ℕ)
loops_from number at [] = []
loops_from number at (f ∷ fs) =
    map (loop_at number) (map (λ h. h.address) ((function_piece f).heads at)) ++ loops_from (number + 1) (at + (function_piece f).size) fs
