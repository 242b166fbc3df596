-- The path that a `Path` is.
use Rattle.bed_sat.specs.Conditions as conditions
use Rattle.bed_macro.specs.declared.paths.Path.{Path}

abbrev pub path_of : Path → conditions.Path
path_of p = record { entry = p.entry; start = p.start; actions = p.actions; hints = p.hints }
