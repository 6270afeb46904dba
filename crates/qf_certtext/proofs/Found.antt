-- What a line is read as.
use Rattle.std.proofs.Common.{◌≡◌, ℕ, List, sym, ap, ◌∙◌, Option, Some, None, IfOk, MatchOption}
use Rattle.std.specs.List.{join_with_byte}
use Rattle.std.specs.declared.result.Result.{Result}
use Rattle.std.specs.declared.result.Result.TheVariants.{Ok, Err}
use Rattle.qf_base.specs.declared.memory.NoMemory.{NoMemory}
use Rattle.qf_tree.specs.declared.line.Line.{Line}
use Rattle.qf_certtext.specs.Spelling.{Spells}
use Rattle.qf_certtext.specs.Words.{words_of, line_of_words}
use Rattle.qf_certtext.proofs.Cuts.{joined_words}
use Rattle.qf_certtext.proofs.WordLines.{line_to, line_from}
use Rattle.qf_certtext.proofs.Clean.{words_of_text}

-- a line's spelling is read as the line
pub spelled_is_read : (bytes : List ℕ) (l : Line) → Spells l bytes → line_of_words (words_of bytes) ≡ Some l
spelled_is_read bytes l s =
    ap (λ bs. line_of_words (words_of bs)) s.text ∙ ap line_of_words (words_of_text l s.fits) ∙ line_from l s.fits

pub read_is_spelled : (bytes : List ℕ) (l : Line) → line_of_words (words_of bytes) ≡ Some l → Spells l bytes
read_is_spelled bytes l e =
    let p = line_to (words_of bytes) l e in
    record { fits = p.0; text = sym (joined_words bytes) ∙ ap (join_with_byte 32) p.1 }

found_line : (bytes : List ℕ) (found : Option Line) → found ≡ line_of_words (words_of bytes) → MatchOption found ((line : Line) → Spells line bytes → ⊥) (λ line. Spells line bytes)
found_line bytes None e = λ l s. let f = e ∙ spelled_is_read bytes l s in cc
found_line bytes (Some l) e = read_is_spelled bytes l (sym e)

pub line_found : (bytes : List ℕ) (result : Result (Option Line) NoMemory) → IfOk result (λ line. line ≡ line_of_words (words_of bytes)) → IfOk result (λ found. MatchOption found ((line : Line) → Spells line bytes → ⊥) (λ line. Spells line bytes))
line_found bytes (Ok found) h = found_line bytes found h
line_found bytes (Err e) h = tt
