use Rattle.std.proofs.Common.{◌≡◌, option_map}
use Rattle.qf_certtext.specs.Words.{words_behind, values_of_words}
use Rattle.qf_certtext.proofs.Values.{with_front, bytes_left}
use Rattle.qf_certtext.proofs.lines.read_values.Given as goal

abbrev pub invariant-loop-behind : goal.invariant-loop-behind
invariant-loop-behind l =
    with_front l.values (values_of_words (words_behind (option_map (λ bytes. bytes.now) l.behind))) ≡ values_of_words (words_behind (option_map (λ bytes. bytes.now) l.fn.rest))

abbrev pub decreases-loop-behind : goal.decreases-loop-behind
decreases-loop-behind l = bytes_left (option_map (λ bytes. bytes.now) l.behind)
