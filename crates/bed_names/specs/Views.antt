-- What code holds of a scope, as one scope.
use Rattle.std.specs.Prelude.{Bool, if◌then◌else◌, List, [], ◌++◌}
use Rattle.bed_lang.specs.declared.word.Name.{Name}
use Rattle.bed_lang.specs.declared.logic.Bind.{Bind}
use Rattle.bed_lang.specs.declared.condition.Decls.{Decls}
use Rattle.bed_names.specs.Names.{words, sequences}
use Rattle.bed_names.specs.Terms.{Visible, with_names}

-- the declarations, with their labels or without
abbrev pub seen_decls : Decls → Bool → Decls
seen_decls d labels = record d { labels = if labels then d.labels else [] }

-- parameters and locals are words, and of the logical variables their sorts are told
abbrev pub seen_outside : Decls → Bool → List Name → List Bind → List Name → List Name → Bool → Visible
seen_outside d labels params logical locals olds answer = record {
  decls = seen_decls d labels;
  names = words params ++ (logical ++ words locals);
  olds = olds;
  answer = answer;
}

-- and some sequences and binders more
abbrev pub seen_inside : Visible → List Name → List Bind → Visible
seen_inside v lists binders = with_names (with_names v (sequences lists)) binders
