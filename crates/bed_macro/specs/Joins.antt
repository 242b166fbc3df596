-- What the bodies of an `if` owe, and how the paths that leave them go on, with a join or without one.
use Rattle.std.specs.Prelude.{Option, Some, None, List, option_map}
use Rattle.std.specs.Option.{option_or}
use Rattle.bed_lang.specs.declared.module.Join.{Join}
use Rattle.bed_lang.specs.declared.condition.Cond.{Cond}
use Rattle.bed_sat.specs.Conditions.{Site, Path, Part, path_from, owed_up_to}

-- what a body owes for a path: with a join, that its assertion is met too, where control comes to the body's end
abbrev pub owed_with : Site → Option Join → Part → Path → List Cond
owed_with site None part p = part.owes p
owed_with site (Some j) part p = owed_up_to site j.place j.assertion part p

-- the path that goes on behind both bodies
abbrev pub joined : Option Join → Option Path → Option Path → Option Path
joined None a b = option_or a b
joined (Some j) a b = option_map (λ q. path_from j.assertion) (option_or a b)
