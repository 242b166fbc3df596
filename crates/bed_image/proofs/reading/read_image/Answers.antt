use Rattle.std.proofs.Common.{Result, ap, subst, ◌∙◌, arith}
use Rattle.bed_image.specs.declared.error.ImageError.{ImageError}
use Rattle.bed_image.specs.declared.image.Image.{Image}
use Rattle.bed_image.specs.Reading.{Gives, image_of}
use Rattle.bed_image.proofs.ImageLemmas.{is_read, is_answer, is_refusal, image_again, image_cut}
use Rattle.bed_image.proofs.FaultLemmas.{fault_told, fault_found}
use Rattle.bed_image.proofs.reading.read_image.Goals as goal

pub returns-clause-read : goal.returns-clause-read
returns-clause-read c = is_read c.args.bytes.now c.fields.result (λ i. omega (arith, c.type_inv.bytes i)) c.fields.ensures

pub returns-clause-complete : goal.returns-clause-complete
returns-clause-complete c = λ i h.
    is_answer i c.fields.result (subst (λ f. Gives (λ j. j) c.fields.result f) (ap image_of h.1 ∙ image_again i h.0) c.fields.ensures)

pub returns-clause-refused : goal.returns-clause-refused
returns-clause-refused c = λ at e.
    let P : Result Image ImageError → Type 0 = λ r. Gives (λ j. j) r (image_of c.args.bytes.now) in
    fault_found c.args.bytes.now at (λ i. omega (arith, c.type_inv.bytes i)) (subst P e c.fields.ensures)

pub returns-clause-fault : goal.returns-clause-fault
returns-clause-fault c = λ at h.
    is_refusal at c.fields.result (subst (λ f. Gives (λ j. j) c.fields.result f) (fault_told c.args.bytes.now at h) c.fields.ensures)

pub returns-clause-cut : goal.returns-clause-cut
returns-clause-cut c = λ i n h lt e.
    is_refusal n c.fields.result (subst (λ f. Gives (λ j. j) c.fields.result f) (ap image_of e ∙ image_cut i h n lt) c.fields.ensures)
