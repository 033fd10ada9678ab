-- The unread tail is told by where it starts.
use Rattle.std.proofs.Common.{ap, ◌∙◌, length, arith, length-drop}
use Rattle.samples.specs.Sampler.{sample_read}
use Rattle.samples.proofs.sampler.Answers.{read_inside}
use Rattle.abi_arith.proofs.sampler.ladletwig_sample_and_return_unread.Goals as goal

-- what is read and the tail are all of the words
pub returns-clause-value : goal.returns-clause-value
returns-clause-value c =
    let a = c.args in
    let p = c.sample_and_return_unread-unread in
    let read = sample_read a.interval (length a.out.now) a.words.now in
    let tail = ap length p.ensures.result_value ∙ length-drop read a.words.now in
    omega (arith, tail, read_inside a.interval (length a.out.now) a.words.now)
