use Rattle.std.proofs.Common.{ℕ, false, List, ◌∙◌, ap, sym}
use Rattle.sync_disk.specs.Images.{state}
use Rattle.gathered_disk.specs.Gathered.{gathered}
use Rattle.gathered_disk.specs.Strokes.{strokes_of}
use Rattle.gathered_disk.specs.declared.asked.Asked.{Asked}
use Rattle.gathered_disk.proofs.Gathering.{nothing_yet}
use Rattle.gathered_disk.proofs.gathered.GatheredDisk.begin.Goals as goal

pub invariant_of-self-clause-inside : goal.invariant_of-self-clause-inside
invariant_of-self-clause-inside g c still = c.requires.inside

pub invariant_of-self-clause-durable : goal.invariant_of-self-clause-durable
invariant_of-self-clause-durable g c still = c.requires.durable

pub invariant_of-self-clause-in_step : goal.invariant_of-self-clause-in_step
invariant_of-self-clause-in_step g c still b told =
    ap (λ (l : List Asked). (state b (strokes_of l)).content) c.clear.ensures.items
    ∙ nothing_yet b c.args.gate
    ∙ sym (ap (λ (l : List ℕ). gathered b c.args.gate l false) c.clear-2.ensures.items)
