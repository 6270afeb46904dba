-- The pieces of a file, the files of an answer, and the line behind them.
use Rattle.std.proofs.Common.{◌≡◌, ◌≢◌, ℕ, zero, suc, ◌+◌, ◌-◌, ◌<◌, ◌≤◌, min, Bool, true, false, cond, List, [], ◌∷◌, ◌++◌, length, take, drop, get_or, Option, Some, None, Result, Ok, Err, OnOk, OnErr, inl, inr, refl, sym, ◌∙◌, ap, subst, arith, append_assoc, append-nil, take-append-drop, take-take, length-take}
use Rattle.std.specs.Str.{bytes_eq}
use Rattle.std.proofs.Math.Seq.{split_at, take-append-add}
use Rattle.std.proofs.lemmas.Slice.Eq.{bytes_eq-Decides}
use Rattle.std.proofs.lemmas.Grind.{take_at_read}
use Rattle.std.proofs.lemmas.List.{take_all}
use Rattle.qf_base.specs.Desk.{DeskState, Rose, NeverFalls, with_more, GrewByPart}
use Rattle.qf_shell.specs.Delivery.{put_size, put_part, ArePut, IsDelivered, IsDeliveredWhole, IsDeliveredInPart, names_of, AnyPutRose}
use Rattle.qf_shell.specs.declared.answer.Answer.{Answer}

-- ---- more and more bytes

pub more_twice : (o : Option (List ℕ)) (a b : List ℕ) → with_more (with_more o a) b ≡ with_more o (a ++ b)
more_twice None a b = refl
more_twice (Some x) a b = ap (λ (l : List ℕ). Some l) (append_assoc x a b)

pub more_nothing : (o : Option (List ℕ)) → with_more o [] ≡ o
more_nothing None = refl
more_nothing (Some x) = ap (λ (l : List ℕ). Some l) (append-nil x)

-- a part of it is a part of no more bytes than there are
take_fewer : (k : ℕ) (bytes : List ℕ) → take (min k (length bytes)) bytes ≡ take k bytes
take_fewer zero bytes = let e : min 0 (length bytes) ≡ 0 = omega arith in ap (λ (n : ℕ). take n bytes) e
take_fewer (suc k) [] = let e : min (suc k) (length {A = ℕ} []) ≡ 0 = omega arith in ap (λ (n : ℕ). take n []) e
take_fewer (suc k) (b ∷ bytes) =
    let e : min (suc k) (length (b ∷ bytes)) ≡ suc (min k (length bytes)) = omega arith in
    ap (λ (n : ℕ). take n (b ∷ bytes)) e ∙ ap (λ (l : List ℕ). b ∷ l) (take_fewer k bytes)

-- ---- the pieces of a file

-- what was put so far under a name, and what is left
pub record PutSoFar (name bytes rest : List ℕ) (old new : DeskState) : Type 0 where
  pub done : List ℕ
  pub bytes_are : bytes ≡ done ++ rest
  pub made : new.made name ≡ with_more (old.made name) done
  pub others : (other : List ℕ) → other ≢ name → new.made other ≡ old.made other
  pub held : new.held ≡ old.held
  pub said : new.said ≡ old.said
  pub was_read : new.was_read ≡ old.was_read
  pub counts : NeverFalls old new

-- the next piece went behind what was put
pub piece_put : (name bytes rest piece more : List ℕ) (n : ℕ) (old mid new : DeskState) → PutSoFar name bytes rest old mid → piece ≡ take n rest → more ≡ drop n rest
    → new.made name ≡ with_more (mid.made name) piece → ((other : List ℕ) → other ≢ name → new.made other ≡ mid.made other)
    → new.held ≡ mid.held → new.said ≡ mid.said → new.was_read ≡ mid.was_read → NeverFalls mid new → PutSoFar name bytes more old new
piece_put name bytes rest piece more n old mid new before piece_is more_is made others held said was_read counts =
    let parts : piece ++ more ≡ rest = ap (λ (l : List ℕ). l ++ more) piece_is ∙ (ap (λ (l : List ℕ). take n rest ++ l) more_is ∙ take-append-drop n rest) in
    record {
      done = before.done ++ piece;
      bytes_are = before.bytes_are ∙ (ap (λ (l : List ℕ). before.done ++ l) (sym parts) ∙ sym (append_assoc before.done piece more));
      made =
          made
          ∙ (ap (λ (o : Option (List ℕ)). with_more o piece) before.made ∙ more_twice (old.made name) before.done piece);
      others = λ other apart. others other apart ∙ before.others other apart;
      held = held ∙ before.held;
      said = said ∙ before.said;
      was_read = was_read ∙ before.was_read;
      counts = record {
        reads = λ other. omega (arith, before.counts.reads other, counts.reads other);
        puts = λ other. omega (arith, before.counts.puts other, counts.puts other);
        says = omega (arith, before.counts.says, counts.says);
      };
    }

-- of a piece that failed a part did
pub piece_part : (name bytes rest piece : List ℕ) (n : ℕ) (old mid new : DeskState) → PutSoFar name bytes rest old mid → piece ≡ take n rest
    → GrewByPart piece (mid.made name) (new.made name) → GrewByPart bytes (old.made name) (new.made name)
piece_part name bytes rest piece n old mid new before piece_is part =
    let k = min part.0 (length piece) in
    let len : length piece ≡ min n (length rest) = ap (length {A = ℕ}) piece_is ∙ length-take n rest in
    let le : k ≤ n = omega (arith, len) in
    let shorter : take part.0 piece ≡ take k rest = sym (take_fewer part.0 piece) ∙ (ap (λ (l : List ℕ). take k l) piece_is ∙ take-take k n rest le) in
    let behind : take (length before.done + k) bytes ≡ before.done ++ take k rest = ap (λ (l : List ℕ). take (length before.done + k) l) before.bytes_are ∙ take-append-add before.done rest k in (
      length before.done + k,
      part.1
          ∙ (ap (λ (o : Option (List ℕ)). with_more o (take part.0 piece)) before.made
          ∙ (more_twice (old.made name) before.done (take part.0 piece)
          ∙ ap (λ (l : List ℕ). with_more (old.made name) l) (ap (λ (l : List ℕ). before.done ++ l) shorter ∙ sym behind))),
    )

-- ---- the bytes of a name in the stream of files

abbrev of_file : ℕ → List ℕ × List ℕ → List ℕ → List ℕ
of_file n file name = cond (bytes_eq file.0 name) (take n file.1) []

of_none : (b : Bool) (bytes : List ℕ) → cond b (take 0 bytes) [] ≡ []
of_none true bytes = refl
of_none false bytes = refl

none_of : (n : ℕ) (files : List (List ℕ × List ℕ)) (name : List ℕ) → n ≡ 0 → put_part n files name ≡ []
none_of n [] name e = refl
none_of n (f ∷ files) name e =
    let z : n - length f.1 ≡ 0 = omega (arith, e) in
    ap (λ (m : ℕ). of_file m f name ++ put_part (n - length f.1) files name) e
    ∙ (ap (λ (l : List ℕ). l ++ put_part (n - length f.1) files name) (of_none (bytes_eq f.0 name) f.1) ∙ none_of (n - length f.1) files name z)

of_all : (n : ℕ) (f : List ℕ × List ℕ) (name : List ℕ) → length f.1 ≤ n → of_file n f name ≡ cond (bytes_eq f.0 name) f.1 []
of_all n f name le = ap (λ (l : List ℕ). cond (bytes_eq f.0 name) l []) (take_all n f.1 le)

-- beyond the files there is no more
pub all_of : (m n : ℕ) (files : List (List ℕ × List ℕ)) (name : List ℕ) → put_size files ≤ m → put_size files ≤ n → put_part m files name ≡ put_part n files name
all_of m n [] name h k = refl
all_of m n (f ∷ files) name h k =
    let a : of_file m f name ≡ of_file n f name = of_all m f name (omega (arith, h)) ∙ sym (of_all n f name (omega (arith, k))) in
    let b : put_part (m - length f.1) files name ≡ put_part (n - length f.1) files name = all_of (m - length f.1) (n - length f.1) files name (omega (arith, h)) (omega (arith, k)) in
    ap (λ (l : List ℕ). l ++ put_part (m - length f.1) files name) a ∙ ap (λ (l : List ℕ). of_file n f name ++ l) b

pub in_two : (n : ℕ) (a b : List (List ℕ × List ℕ)) (name : List ℕ) → put_part n (a ++ b) name ≡ put_part n a name ++ put_part (n - put_size a) b name
in_two n [] b name = let e : n - 0 ≡ n = omega arith in ap (λ (m : ℕ). put_part m b name) (sym e)
in_two n (f ∷ a) b name =
    let e : n - length f.1 - put_size a ≡ n - put_size (f ∷ a) = omega arith in
    ap (λ (l : List ℕ). of_file n f name ++ l) (in_two (n - length f.1) a b name)
    ∙ (sym (append_assoc (of_file n f name) (put_part (n - length f.1) a name) (put_part (n - length f.1 - put_size a) b name))
    ∙ ap (λ (m : ℕ). of_file n f name ++ put_part (n - length f.1) a name ++ put_part m b name) e)

pub size_of_two : (a b : List (List ℕ × List ℕ)) → put_size (a ++ b) ≡ put_size a + put_size b
size_of_two [] b = omega arith
size_of_two (f ∷ a) b = let e = size_of_two a b in omega (arith, e)

-- of a name, the first files with k bytes of the next
next_part : (a b : List (List ℕ × List ℕ)) (f : List ℕ × List ℕ) (k : ℕ) (name : List ℕ) → k ≤ length f.1
    → put_part (put_size a + k) (a ++ f ∷ b) name ≡ put_part (put_size a) a name ++ of_file k f name
next_part a b f k name le =
    let e : put_size a + k - put_size a ≡ k = omega arith in
    let z : put_size a + k - put_size a - length f.1 ≡ 0 = omega (arith, le) in
    in_two (put_size a + k) a (f ∷ b) name
    ∙ (ap (λ (l : List ℕ). l ++ put_part (put_size a + k - put_size a) (f ∷ b) name) (all_of (put_size a + k) (put_size a) a name (omega arith) (omega arith))
    ∙ (ap (λ (l : List ℕ). put_part (put_size a) a name ++ (of_file (put_size a + k - put_size a) f name ++ l)) (none_of (put_size a + k - put_size a - length f.1) b name z)
    ∙ (ap (λ (l : List ℕ). put_part (put_size a) a name ++ l) (append-nil (of_file (put_size a + k - put_size a) f name))
    ∙ ap (λ (m : ℕ). put_part (put_size a) a name ++ of_file m f name) e)))

absurd_same : (b : Bool) → b ≡ false → b ≡ true → ⊥
absurd_same b not_so so = cc

-- what the next file added under a name
added : (f : List ℕ × List ℕ) (k : ℕ) (name : List ℕ) (mid new : DeskState) (b : Bool) → bytes_eq f.0 name ≡ b
    → new.made f.0 ≡ with_more (mid.made f.0) (take k f.1) → ((other : List ℕ) → other ≢ f.0 → new.made other ≡ mid.made other)
    → new.made name ≡ with_more (mid.made name) (cond b (take k f.1) [])
added f k name mid new true same made others =
    subst (λ (n : List ℕ). new.made n ≡ with_more (mid.made n) (take k f.1)) ((bytes_eq-Decides f.0 name).0 same) made
added f k name mid new false apart made others =
    others name (λ e. absurd_same (bytes_eq f.0 name) apart ((bytes_eq-Decides f.0 name).1 (sym e))) ∙ sym (more_nothing (mid.made name))

pub put_next : (a b : List (List ℕ × List ℕ)) (f : List ℕ × List ℕ) (k : ℕ) (old mid new : DeskState) → k ≤ length f.1
    → ArePut (put_size a) a old mid → new.made f.0 ≡ with_more (mid.made f.0) (take k f.1) → ((other : List ℕ) → other ≢ f.0 → new.made other ≡ mid.made other)
    → ArePut (put_size a + k) (a ++ f ∷ b) old new
put_next a b f k old mid new le before made others name =
    added f k name mid new (bytes_eq f.0 name) refl made others
    ∙ (ap (λ (o : Option (List ℕ)). with_more o (of_file k f name)) (before name)
    ∙ (more_twice (old.made name) (put_part (put_size a) a name) (of_file k f name)
    ∙ ap (λ (l : List ℕ). with_more (old.made name) l) (sym (next_part a b f k name le))))

-- ---- the file at a place

module _ (old mid new : DeskState) (files : List (List ℕ × List ℕ)) (i : ℕ) (f : List ℕ × List ℕ) (name bytes : List ℕ) (within : i < length files) (is : f ≡ get_or files i f) (name_is : name ≡ f.0) (bytes_are : bytes ≡ f.1)
    (before : ArePut (put_size (take i files)) (take i files) old mid) (others : (other : List ℕ) → other ≢ name → new.made other ≡ mid.made other) where
  others_stay : (other : List ℕ) → other ≢ f.0 → new.made other ≡ mid.made other
  others_stay other apart = others other (λ e. apart (e ∙ name_is))

  pub put_step : new.made name ≡ with_more (mid.made name) bytes → ArePut (put_size (take (i + 1) files)) (take (i + 1) files) old new
  put_step made =
      let all : with_more (mid.made f.0) bytes ≡ with_more (mid.made f.0) (take (length f.1) f.1) = ap (λ (l : List ℕ). with_more (mid.made f.0) l) (bytes_are ∙ sym (take_all (length f.1) f.1 (omega arith))) in
      let whole : new.made f.0 ≡ with_more (mid.made f.0) (take (length f.1) f.1) = subst (λ (n : List ℕ). new.made n ≡ with_more (mid.made n) bytes) name_is made ∙ all in
      let size : put_size (take i files) + length f.1 ≡ put_size (take i files ++ f ∷ []) = omega (arith, size_of_two (take i files) (f ∷ [])) in
      let more : take (i + 1) files ≡ take i files ++ f ∷ [] = (take_at_read files i f within).1 ∙ ap (λ (g : List ℕ × List ℕ). take i files ++ g ∷ []) (sym is) in
      subst (λ (l : List (List ℕ × List ℕ)). ArePut (put_size l) l old new) (sym more)
      (subst (λ (n : ℕ). ArePut n (take i files ++ f ∷ []) old new) size (put_next (take i files) [] f (length f.1) old mid new (omega arith) before whole others_stay))

  pub put_here : GrewByPart bytes (mid.made name) (new.made name) → (n : ℕ) × (n ≤ put_size files) × ArePut n files old new
  put_here part =
      let a = take i files in
      let b = drop (suc i) files in
      let k = min part.0 (length f.1) in
      let le : k ≤ length f.1 = omega arith in
      let shorter : with_more (mid.made f.0) (take part.0 bytes) ≡ with_more (mid.made f.0) (take k f.1) =
      ap (λ (l : List ℕ). with_more (mid.made f.0) l) (ap (λ (l : List ℕ). take part.0 l) bytes_are ∙ sym (take_fewer part.0 f.1)) in
      let made : new.made f.0 ≡ with_more (mid.made f.0) (take k f.1) = subst (λ (n : List ℕ). new.made n ≡ with_more (mid.made n) (take part.0 bytes)) name_is part.1 ∙ shorter in
      let are : files ≡ a ++ f ∷ b = split_at files i f within ∙ ap (λ (g : List ℕ × List ℕ). a ++ g ∷ b) (sym is) in
      let size : put_size files ≡ put_size a + (length f.1 + put_size b) = ap put_size are ∙ size_of_two a (f ∷ b) in
      let fits : put_size a + k ≤ put_size files = omega (arith, size, le) in (
        put_size a + k,
        fits,
        subst (λ (l : List (List ℕ × List ℕ)). ArePut (put_size a + k) l old new) (sym are) (put_next a b f k old mid new le before made others_stay),
      )

rose_at : (old mid new : DeskState) (files : List (List ℕ × List ℕ)) (i : ℕ) (d : List ℕ × List ℕ) → i < length files → NeverFalls old mid
    → Rose (mid.put_faults (get_or files i d).0) (new.put_faults (get_or files i d).0) → AnyPutRose (names_of files) old new
rose_at old mid new [] i d within fell rose = absurd (omega (arith, within))
rose_at old mid new (f ∷ files) zero d within fell rose =
    let h : old.put_faults f.0 ≤ mid.put_faults f.0 = fell.puts f.0 in
    inl (omega (arith, h, rose))
rose_at old mid new (f ∷ files) (suc i) d within fell rose =
    let w : i < length files = omega (arith, within) in
    inr (rose_at old mid new files i d w fell rose)

pub put_rose : (old mid new : DeskState) (files : List (List ℕ × List ℕ)) (i : ℕ) (f : List ℕ × List ℕ) (name : List ℕ) → i < length files → f ≡ get_or files i f → name ≡ f.0 → NeverFalls old mid
    → Rose (mid.put_faults name) (new.put_faults name) → AnyPutRose (names_of files) old new
put_rose old mid new files i f name within is name_is fell rose =
    rose_at old mid new files i f within fell
    (subst (λ (n : List ℕ). Rose (mid.put_faults n) (new.put_faults n)) (name_is ∙ ap (λ (g : List ℕ × List ℕ). g.0) is) rose)

-- ---- the line behind the files

pub files_alone : (answer : Answer) (n : ℕ) (old new : DeskState) → n ≤ put_size answer.files → ArePut n answer.files old new → new.said ≡ old.said → IsDelivered n answer old new
files_alone answer n old new le put said =
    let z : n - put_size answer.files ≡ 0 = omega (arith, le) in
    record {
      made = put;
      said = said ∙ (sym (more_nothing old.said) ∙ ap (λ (m : ℕ). with_more old.said (take m answer.line)) (sym z));
    }

pub line_too : (answer : Answer) (k : ℕ) (old mid new : DeskState) → ArePut (put_size answer.files) answer.files old mid → mid.said ≡ old.said
    → new.made ≡ mid.made → new.said ≡ with_more mid.said (take k answer.line) → IsDelivered (put_size answer.files + k) answer old new
line_too answer k old mid new put quiet made said =
    let e : put_size answer.files + k - put_size answer.files ≡ k = omega arith in
    record {
      made = λ name.
          ap (λ (m : List ℕ → Option (List ℕ)). m name) made
          ∙ (put name ∙ ap (λ (l : List ℕ). with_more (old.made name) l) (all_of (put_size answer.files) (put_size answer.files + k) answer.files name (omega arith) (omega arith)));
      said =
          said
          ∙ (ap (λ (o : Option (List ℕ)). with_more o (take k answer.line)) quiet ∙ ap (λ (m : ℕ). with_more old.said (take m answer.line)) (sym e));
    }

-- a clause on one outcome gives another
pub on_ok : {T E P Q : Type 0} (r : Result T E) → (P → Q) → OnOk r P → OnOk r Q
on_ok (Ok x) f h = f h
on_ok (Err e) f h = tt

pub on_err : {T E P Q : Type 0} (r : Result T E) → (P → Q) → OnErr r P → OnErr r Q
on_err (Ok x) f h = tt
on_err (Err e) f h = f h

pub at_err : {T E P : Type 0} (r : Result T E) → P → OnErr r P
at_err (Ok x) h = tt
at_err (Err e) h = h

pub line_whole : (answer : Answer) (old mid new : DeskState) → ArePut (put_size answer.files) answer.files old mid → mid.said ≡ old.said
    → new.made ≡ mid.made → new.said ≡ with_more mid.said answer.line → IsDeliveredWhole answer old new
line_whole answer old mid new put quiet made said =
    line_too answer (length answer.line) old mid new put quiet made
    (said ∙ ap (λ (l : List ℕ). with_more mid.said l) (sym (take_all (length answer.line) answer.line (omega arith))))

pub line_part : (answer : Answer) (old mid new : DeskState) → ArePut (put_size answer.files) answer.files old mid → mid.said ≡ old.said
    → new.made ≡ mid.made → GrewByPart answer.line mid.said new.said → IsDeliveredInPart answer old new
line_part answer old mid new put quiet made said = (put_size answer.files + said.0, line_too answer said.0 old mid new put quiet made said.1)

-- a count that rose from a later moment rose from an earlier one
pub rose_from : (a b c : ℕ) → a ≤ b → Rose b c → Rose a c
rose_from a b c h k = omega arith
