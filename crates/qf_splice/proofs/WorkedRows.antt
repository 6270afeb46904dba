-- Repaired texts, worked out.
use Rattle.std.specs.Prelude.{◌≡◌, refl, pos, negsuc, [], ◌∷◌, ◌++◌}
use Rattle.std.specs.Fmt.{digits}
use lib.Chars.{codes}
use Rattle.qf_splice.specs.RepairedText.{repaired_text}

-- a space parts the new `-` from the one before it
minus_before_a_negative : repaired_text (codes "UPDATE t SET a = a-5;") (record { statement = 1; start = 19; end = 20; old = pos 5 } ∷ []) (negsuc 2 ∷ []) ≡ codes "UPDATE t SET a = a- -3;"
unfolding digits
minus_before_a_negative = refl

-- the other constants keep their literals
between_upper_end : repaired_text (codes "UPDATE t SET a = 1 WHERE b BETWEEN 10 AND 20;") (record { statement = 1; start = 17; end = 18; old = pos 1 } ∷ record { statement = 1; start = 35; end = 37; old = pos 10 } ∷ record { statement = 1; start = 42; end = 44; old = pos 20 } ∷ []) (pos 1 ∷ pos 10 ∷ pos 21 ∷ []) ≡ codes "UPDATE t SET a = 1 WHERE b BETWEEN 10 AND 21;"
unfolding digits
between_upper_end = refl

-- one literal for another
delete_threshold : repaired_text (codes "DELETE FROM t WHERE a > 10;") (record { statement = 1; start = 24; end = 26; old = pos 10 } ∷ []) (pos 12 ∷ []) ≡ codes "DELETE FROM t WHERE a > 12;"
unfolding digits
delete_threshold = refl

-- a text stays as it stands
inserted_row : repaired_text (codes "INSERT INTO t VALUES (4, 'it''s');") (record { statement = 1; start = 22; end = 23; old = pos 4 } ∷ []) (pos 5 ∷ []) ≡ codes "INSERT INTO t VALUES (5, 'it''s');"
unfolding digits
inserted_row = refl

-- a space parts the new digit from the word before it
between_joined_to_minus : repaired_text (codes "UPDATE t SET a = 1 WHERE b BETWEEN-5 AND-3;") (record { statement = 1; start = 17; end = 18; old = pos 1 } ∷ record { statement = 1; start = 34; end = 36; old = negsuc 4 } ∷ record { statement = 1; start = 40; end = 42; old = negsuc 2 } ∷ []) (pos 1 ∷ negsuc 4 ∷ pos 2 ∷ []) ≡ codes "UPDATE t SET a = 1 WHERE b BETWEEN-5 AND 2;"
unfolding digits
between_joined_to_minus = refl

-- only the literal of the changed constant changes, among equal ones
equal_numerals : repaired_text (codes "UPDATE t SET a = 3 WHERE b = 3;") (record { statement = 1; start = 17; end = 18; old = pos 3 } ∷ record { statement = 1; start = 29; end = 30; old = pos 3 } ∷ []) (pos 3 ∷ pos 4 ∷ []) ≡ codes "UPDATE t SET a = 3 WHERE b = 4;"
unfolding digits
equal_numerals = refl

-- an unchanged constant keeps its zeros, a changed one loses them
leading_zeros : repaired_text (codes "UPDATE t SET a = 007 WHERE b = 007;") (record { statement = 1; start = 17; end = 20; old = pos 7 } ∷ record { statement = 1; start = 31; end = 34; old = pos 7 } ∷ []) (pos 7 ∷ pos 8 ∷ []) ≡ codes "UPDATE t SET a = 007 WHERE b = 8;"
unfolding digits
leading_zeros = refl

-- a minus that belongs to the literal goes with it
minus_goes_with_its_literal : repaired_text (codes "UPDATE t SET a = -5;") (record { statement = 1; start = 17; end = 19; old = negsuc 4 } ∷ []) (pos 0 ∷ []) ≡ codes "UPDATE t SET a = 0;"
unfolding digits
minus_goes_with_its_literal = refl

-- numerals in comments stay, and a byte order mark
comments_stay : repaired_text (239 ∷ 187 ∷ 191 ∷ (codes "-- 10 of 10" ++ 10 ∷ codes "DELETE FROM t -- 10" ++ 10 ∷ codes "WHERE a > 10;")) (record { statement = 1; start = 45; end = 47; old = pos 10 } ∷ []) (pos 12 ∷ []) ≡ 239 ∷ 187 ∷ 191 ∷ (codes "-- 10 of 10" ++ 10 ∷ codes "DELETE FROM t -- 10" ++ 10 ∷ codes "WHERE a > 12;")
unfolding digits
comments_stay = refl
