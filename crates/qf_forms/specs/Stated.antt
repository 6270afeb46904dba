-- What complaints that are read keep: names that are stated once, and numbers within 2^50.
use Rattle.std.specs.Prelude.{◌≡◌, true, List, []}
use Rattle.std.specs.List.{AllByRecursion}
use Rattle.qf_ir.specs.Fits.{Small}
use Rattle.qf_forms.specs.declared.complaint.WishCell.{WishCell}
use Rattle.qf_forms.specs.declared.complaint.WishCell.TheVariants.{Int, Text}
use Rattle.qf_forms.specs.declared.complaint.Wish.{Wish}
use Rattle.qf_forms.specs.declared.complaint.Wish.TheVariants.{Absent, Present}
use Rattle.qf_forms.specs.declared.complaint.Complaint.{Complaint}
use Rattle.qf_forms.specs.Complaints.{Stated, are_distinct}

-- the values that a wish states
abbrev pub stated_by : Wish → List Stated
stated_by Absent = []
stated_by (Present stated) = stated

-- no name is stated twice
abbrev pub StatesNamesOnce : Complaint → Type 0
StatesNamesOnce complaint = are_distinct (stated_by complaint.wish) ≡ true

abbrev pub IsSmallValue : WishCell → Type 0
IsSmallValue (Int number) = Small number
IsSmallValue (Text text) = Unit {0}

-- each stated number is within 2^50
abbrev pub StatesSmallNumbers : Complaint → Type 0
StatesSmallNumbers complaint = AllByRecursion (λ (s : Stated). IsSmallValue s.1) (stated_by complaint.wish)
