-- The text of a certificate: the repair 9 of a constant 5 from 0 to 10, whose lower values a row refutes.
use Rattle.std.proofs.Common.{◌≡◌, [], ◌∷◌, pos, negsuc, refl, Some, None}
use Rattle.std.specs.Fmt.{digits}
use lib.Chars.{codes}
use Rattle.qf_base.specs.declared.names.Bound.TheVariants.{Low}
use Rattle.qf_base.specs.declared.names.RowName.TheVariants.{Start, Inserted}
use Rattle.qf_lin.specs.declared.step.Step.TheVariants as step
use Rattle.qf_tree.specs.declared.tree.Node.TheVariants as node
use Rattle.qf_tree.specs.declared.cert.Answer.TheVariants as answer
use Rattle.qf_tree.specs.declared.cert.Cert.{Cert}
use Rattle.qf_tree.specs.declared.line.Line.TheVariants as line
use Rattle.qf_certtext.specs.Spelling.{spelling, line_text}
use Rattle.qf_certtext.specs.Words.{words_of, line_of_words}

abbrev nine : Cert
nine = record {
  answer = answer.Repair (pos 9 ∷ []);
  tree = record { nodes = node.Split 1 (pos 8) (Start 1) ∷ node.Refuted (Start 1) (step.Tight 4 4 (Low (pos 9)) ∷ step.Empty ∷ []) ∷ node.Dear ∷ [] };
}

text_of_nine : spelling nine ≡ codes "qfix-cert 1\nanswer repair 9\nsplit p1 8 r1\nrefuted r1\nge 4 4 9\nempty\ndear\nend\n"
unfolding digits
text_of_nine = refl

-- without parameters the point is empty, and no space follows the word
text_of_no_values : line_text (line.Answer (answer.Repair [])) ≡ codes "answer repair"
text_of_no_values = refl

text_below_zero : line_text (line.Split 12 (negsuc 4) (Inserted 3)) ≡ codes "split p12 -5 i3"
unfolding digits
text_below_zero = refl

read_below_zero : line_of_words (words_of (codes "split p12 -5 i3")) ≡ Some (line.Split 12 (negsuc 4) (Inserted 3))
read_below_zero = refl

leading_zero : line_of_words (words_of (codes "ge 4 4 09")) ≡ None
leading_zero = refl

minus_zero : line_of_words (words_of (codes "split p1 -0 r1")) ≡ None
minus_zero = refl

two_spaces : line_of_words (words_of (codes "answer  none")) ≡ None
two_spaces = refl

bound_too_large : line_of_words (words_of (codes "le 1 1 1152921504606846977")) ≡ None
bound_too_large = refl

no_parameter : line_of_words (words_of (codes "split p0 1 r1")) ≡ None
no_parameter = refl
