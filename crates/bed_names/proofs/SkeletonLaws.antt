-- Changing arguments changes no skeleton, and so resolving names doesn't: arguments stand in assertions and hints alone.
use Rattle.std.proofs.Common.{◌≡◌, [], map, Option, None, Some, refl, ap, ◌∙◌}
use Rattle.std.proofs.Math.Path.{fun_ext}
use Rattle.bed_lang.specs.declared.word.Sort.{Sort}
use Rattle.bed_lang.specs.declared.logic.Arg.{Arg}
use Rattle.bed_lang.specs.declared.module.Signature.{Signature}
use Rattle.bed_lang.specs.declared.module.Function.{Function}
use Rattle.bed_lang.specs.declared.module.Module.{Module}
use Rattle.bed_lang.specs.declared.module.Join.{Join}
use Rattle.bed_lang.specs.declared.statement.Stmt.{Stmt, fold-Stmt}
use Rattle.bed_lang.specs.declared.statement.StmtKind.{StmtKind, StmtKind-F, If}
use Rattle.bed_lang.specs.declared.condition.Decls.{Decls}
use Rattle.bed_lang.specs.Declarations.{declarations}
use Rattle.bed_lang.specs.Lookups.{signature_named}
use Rattle.bed_lang.specs.Skeletons.{join_skeleton, kind_skeleton_step, statement_skeleton_step, statement_skeleton, signature_skeleton, function_skeleton}
use Rattle.bed_names.specs.Terms.{Visible}
use Rattle.bed_names.specs.Modules.{function_visible}
use Rattle.bed_names.specs.Arguments.{changed_join, changed_stmt, changed_signature, changed_function}
use Rattle.bed_names.specs.Laws.{ResolvingKeepsSkeletons}
use Rattle.bed_names.specs.Resolved.{resolved_arg}
use Rattle.bed_names.proofs.ArgumentLaws.{changed_layer, fold_changed, kept_by}

module _ (change : Visible → Option Sort → Arg → Arg) where
  join_kept : (v : Visible) (j : Option Join) → join_skeleton (changed_join change v j) ≡ join_skeleton j
  join_kept v None = refl
  join_kept v (Some j) = refl

  layer_kept : (v : Visible) (x : StmtKind-F StmtKind Stmt) → kind_skeleton_step (changed_layer change v x) ≡ kind_skeleton_step x
  layer_kept v (StmtKind-F.Assign x a) = refl
  layer_kept v (StmtKind-F.Compute x op a b) = refl
  layer_kept v (StmtKind-F.Load x p) = refl
  layer_kept v (StmtKind-F.LoadByte x p) = refl
  layer_kept v (StmtKind-F.Store p a) = refl
  layer_kept v (StmtKind-F.StoreByte p a) = refl
  layer_kept v (StmtKind-F.Call place x t via args hints after) = refl
  layer_kept v (StmtKind-F.If t ys ns j) = ap (If t ys ns) (join_kept v j)
  layer_kept v (StmtKind-F.While t place a body) = refl
  layer_kept v (StmtKind-F.Return a) = refl
  layer_kept v (StmtKind-F.Hint h) = refl
  layer_kept v (StmtKind-F.Find n x a p s u t keep body) = refl
  layer_kept v (StmtKind-F.Walk n x p s u t keep body) = refl

  statement_kept : (v : Visible) (s : Stmt) → statement_skeleton (changed_stmt change v s) ≡ statement_skeleton s
  statement_kept v s =
      fold_changed change v kind_skeleton_step statement_skeleton_step s
      ∙ ap (λ step. fold-Stmt StmtKind Stmt step statement_skeleton_step s) (fun_ext (layer_kept v))

  function_kept : (d : Decls) (f : Function) → function_skeleton (changed_function change d f) ≡ function_skeleton f
  function_kept d f =
      let v : Visible = function_visible d (signature_named d f.signature.bytes) f in
      ap (λ body. record f { body = body }) (kept_by statement_skeleton (changed_stmt change v) (statement_kept v) f.body)

  signature_kept : (d : Decls) (s : Signature) → signature_skeleton (changed_signature change d s) ≡ signature_skeleton s
  signature_kept d s = refl

pub resolving_keeps_skeletons : ResolvingKeepsSkeletons
resolving_keeps_skeletons m =
    let d : Decls = declarations m in
    ap (λ ss. record m { signatures = ss; predicates = []; functions = map function_skeleton (map (changed_function resolved_arg d) m.functions) })
    (kept_by signature_skeleton (changed_signature resolved_arg d) (signature_kept resolved_arg d) m.signatures)
    ∙ ap (λ fs. record m { signatures = map signature_skeleton m.signatures; predicates = []; functions = fs })
    (kept_by function_skeleton (changed_function resolved_arg d) (function_kept resolved_arg d) m.functions)
