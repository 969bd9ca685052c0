-- The answer of `batch`, in words.
use Rattle.runner.proofs.WholeBatch.{gives, leaves}
use Rattle.runner.proofs.pevzoncs_batch.Goals as goal

pub returns : goal.returns
returns c =
    let e = c.batch-ran.ensures.0 in
    (gives _ _ e _ _ _ _ c.put_front.ensures c.batch_words.ensures c.batch_number.ensures, leaves _ _ e _ c.batch-ran.ensures.1)
