use Rattle.std.proofs.Common.{◌≡◌, List, ℕ, ◌∷◌, subst}
use Rattle.bed_table.specs.Layout.{Label}
use Rattle.bed_layout.specs.Addresses.{address_with}
use Rattle.bed_layout.proofs.NameLemmas.{add_known}
use Rattle.bed_layout.proofs.names.add.Goals as goal

pub returns : goal.returns
returns c =
    let r = c.in_ok-add.ensures in
    subst (λ n. (more : List Label) (x : List ℕ) → address_with c.add.new.self more x ≡ address_with c.args.table.now (record { name = n; address = c.args.address } ∷ more) x) c.as_slice.ensures
    (add_known c.args.table.now c.add.new.self c.as_slice.result.now c.args.address c.in_ok-add.field-0 r.is_new r.new r.old)
