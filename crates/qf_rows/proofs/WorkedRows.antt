-- The inequalities of worked circuits, computed.
use Rattle.std.proofs.Common.{◌≡◌, List, [], ◌∷◌, pos, negsuc, refl}
use Rattle.qf_base.specs.Values.{Bounds}
use Rattle.qf_circuit.specs.declared.circuit.Def.{Def}
use Rattle.qf_circuit.specs.declared.circuit.Def.TheVariants.{Param, Const, Linear, AtLeastZero, Choose}
use Rattle.qf_circuit.specs.Circuits.{hull_of}
use Rattle.qf_rows.specs.Encoding.{circuit_system, merged}

-- the row (1, 9500, 10) under UPDATE t SET rate = 30 WHERE income >= 85700, where the second constant may be 80000 to 95000
abbrev tax : List Def
tax =
    Const (pos 1) ∷ Const (pos 9500) ∷ Const (pos 10) ∷ Const (pos 1) ∷ Param 2 ∷ Linear ((pos 1, 2) ∷ (negsuc 0, 5) ∷ []) (pos 0) ∷ AtLeastZero 6 ∷ Param 1 ∷ Linear ((pos 1, 8) ∷ []) (pos 0) ∷ Choose 7 9 3 ∷ []

abbrev tax_root : Bounds
tax_root = (pos 30, pos 30) ∷ (pos 80000, pos 95000) ∷ []

tax_system : circuit_system (hull_of tax_root tax) tax ≡ record {
  inequalities =
      record { terms = (pos 1, 2) ∷ (negsuc 0, 5) ∷ (negsuc 0, 6) ∷ []; least = pos 0 }
      ∷ record { terms = (negsuc 0, 2) ∷ (pos 1, 5) ∷ (pos 1, 6) ∷ []; least = pos 0 }
      ∷ record { terms = (pos 1, 6) ∷ (negsuc 85499, 7) ∷ []; least = negsuc 85499 }
      ∷ record { terms = (negsuc 0, 6) ∷ (negsuc 70498, 7) ∷ []; least = pos 1 }
      ∷ record { terms = (pos 1, 8) ∷ (negsuc 0, 9) ∷ []; least = pos 0 }
      ∷ record { terms = (negsuc 0, 8) ∷ (pos 1, 9) ∷ []; least = pos 0 }
      ∷ record { terms = (pos 1, 10) ∷ (negsuc 0, 9) ∷ (negsuc 19, 7) ∷ []; least = negsuc 19 }
      ∷ record { terms = (pos 1, 9) ∷ (negsuc 0, 10) ∷ []; least = pos 0 }
      ∷ record { terms = (pos 1, 10) ∷ (negsuc 0, 3) ∷ []; least = pos 0 }
      ∷ record { terms = (pos 1, 3) ∷ (negsuc 0, 10) ∷ []; least = pos 0 }
      ∷ [];
  vars = 10;
  selectors = 7 ∷ [];
}
tax_system = refl

-- the row (0) under UPDATE t SET a = a + 5, where the constant may be 0 to 10
certificate_system : circuit_system (hull_of ((pos 0, pos 10) ∷ []) (Const (pos 0) ∷ Const (pos 1) ∷ Param 1 ∷ Linear ((pos 1, 1) ∷ (pos 1, 3) ∷ []) (pos 0) ∷ [])) (Const (pos 0) ∷ Const (pos 1) ∷ Param 1 ∷ Linear ((pos 1, 1) ∷ (pos 1, 3) ∷ []) (pos 0) ∷ []) ≡ record {
  inequalities =
      record { terms = (pos 1, 1) ∷ (pos 1, 3) ∷ (negsuc 0, 4) ∷ []; least = pos 0 }
      ∷ record { terms = (negsuc 0, 1) ∷ (negsuc 0, 3) ∷ (pos 1, 4) ∷ []; least = pos 0 }
      ∷ [];
  vars = 4;
  selectors = [];
}
certificate_system = refl

-- x + 2 y + 3 x - 2 y
equal_variables : merged ((pos 1, 1) ∷ (pos 2, 2) ∷ (pos 3, 1) ∷ (negsuc 1, 2) ∷ []) ≡ (pos 4, 1) ∷ []
equal_variables = refl
