-- A row whose definitions are being made.
use Rattle.qf_encode.specs.declared.coded.Coded.{Coded}
use Rattle.qf_encode.specs.declared.row.RowMaker.{RowMaker}

-- what is made so far
abbrev pub coded_now : RowMaker → Coded
coded_now r = record { circuit = r.maker; columns = r.columns; live = r.live }
