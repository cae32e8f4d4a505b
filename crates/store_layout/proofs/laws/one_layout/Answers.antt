use Rattle.store_layout.specs.RecordedLaws.{one_store}
use Rattle.store_layout.proofs.laws.one_layout.Goals as goal

pub returns : goal.returns
returns c = λ profile other image d e a b x y ra rb.
    one_store c.one_reading.ensures.finished c.one_reading.ensures.one_log c.one_batch.ensures c.one_manifest.ensures.one_list profile other image d e a b x y ra rb
