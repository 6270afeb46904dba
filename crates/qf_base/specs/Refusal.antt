-- How a refusal reads.
use Rattle.std.specs.Prelude.{ℕ, List, [], ◌∷◌, ◌++◌, Option, Some, None}
use Rattle.std.specs.Fmt.{decimal}
use lib.Chars.{codes}
use Rattle.qf_base.specs.declared.refusal.Refusal.{Refusal}
use Rattle.qf_base.specs.declared.refusal.Kind.{Kind}
use Rattle.qf_base.specs.declared.refusal.Kind.TheVariants.{TooLong, NoHeader, TooManyColumns, BadName, RepeatedName, TooManyRows, Uneven, BadNumber, BadText, BadByte, OpenString, NumberTooBig, BadSyntax, NotLinear, BigCoefficient, OtherTable, UnknownColumn, WrongType, RepeatedColumn, MissingColumn, TooMany, UnevenDomain, BadDomain, UnknownParam, RepeatedParam, Empty, TooLarge, MissesOld, Wide, BadJson, BadComplaint, TooManyComplaints, UnknownRow, RepeatedRow, ComplaintColumn, ComplaintType, TooManyFree, TooManyPoints}

abbrev pub kind_name : Kind → List ℕ
kind_name TooLong = codes "TooLong"
kind_name NoHeader = codes "NoHeader"
kind_name TooManyColumns = codes "TooManyColumns"
kind_name BadName = codes "BadName"
kind_name RepeatedName = codes "RepeatedName"
kind_name TooManyRows = codes "TooManyRows"
kind_name Uneven = codes "Uneven"
kind_name BadNumber = codes "BadNumber"
kind_name BadText = codes "BadText"
kind_name BadByte = codes "BadByte"
kind_name OpenString = codes "OpenString"
kind_name NumberTooBig = codes "NumberTooBig"
kind_name BadSyntax = codes "BadSyntax"
kind_name NotLinear = codes "NotLinear"
kind_name BigCoefficient = codes "BigCoefficient"
kind_name OtherTable = codes "OtherTable"
kind_name UnknownColumn = codes "UnknownColumn"
kind_name WrongType = codes "WrongType"
kind_name RepeatedColumn = codes "RepeatedColumn"
kind_name MissingColumn = codes "MissingColumn"
kind_name TooMany = codes "TooMany"
kind_name UnevenDomain = codes "UnevenDomain"
kind_name BadDomain = codes "BadDomain"
kind_name UnknownParam = codes "UnknownParam"
kind_name RepeatedParam = codes "RepeatedParam"
kind_name Empty = codes "Empty"
kind_name TooLarge = codes "TooLarge"
kind_name MissesOld = codes "MissesOld"
kind_name Wide = codes "Wide"
kind_name BadJson = codes "BadJson"
kind_name BadComplaint = codes "BadComplaint"
kind_name TooManyComplaints = codes "TooManyComplaints"
kind_name UnknownRow = codes "UnknownRow"
kind_name RepeatedRow = codes "RepeatedRow"
kind_name ComplaintColumn = codes "ComplaintColumn"
kind_name ComplaintType = codes "ComplaintType"
kind_name TooManyFree = codes "TooManyFree"
kind_name TooManyPoints = codes "TooManyPoints"

-- a space and a number for a place
abbrev pub place_text : Option ℕ → List ℕ
place_text None = []
place_text (Some place) = 32 ∷ decimal place

-- `refused: KIND`, the places and a line feed
abbrev pub refusal_bytes : Refusal → List ℕ
refusal_bytes refusal =
    codes "refused: " ++ kind_name refusal.kind ++ place_text refusal.first ++ place_text refusal.second ++ codes "\n"
