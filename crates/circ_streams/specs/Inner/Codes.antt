-- The two codes of CIRC are as the laws over streams ask: parity makes codewords, and a codeword is handed on as it is and is not marked.
-- Assumes nothing.
use Rattle.std.proofs.Common.{ap, arith}
use Rattle.std.specs.Prelude.{[], take, drop}
use Rattle.codeword.specs.Code.{Codeword}
use Rattle.codeword.specs.Nearest.Finds.{nearest_code}
use Rattle.codeword.specs.Code.Distance.{sum_zeros}
use Rattle.circ_streams.specs.Inner.Coding.{Coding, Correcting}
use Rattle.codeword.specs.Nearest.{found_or}
use Rattle.circ.specs.Codes.{q_of, p_of, mark_of, corrected, word_mark}
use Rattle.circ.specs.Codes.Parities.{four_bytes, bytes_parity, q_parity, p_parity}

-- the Q and P bytes make codewords
pub circ_coding : Coding (Codeword 4) q_of p_of
unfolding q_of p_of
circ_coding =
    record {
      four_q = λ w. four_bytes (take 12 w) (drop 16 w);
      four_p = λ w. four_bytes w [];
      bytes_q = λ w h. bytes_parity (take 12 w) (drop 16 w);
      bytes_p = λ w h. bytes_parity w [];
      code_q = λ w e h. (q_parity w h).code;
      code_p = λ w e h. (p_parity w h).code;
    }

-- the code keeps codewords, and does not mark them
pub circ_correcting : Correcting (Codeword 4) corrected corrected word_mark
unfolding corrected word_mark
circ_correcting =
    record {
      zeros = λ n j h. sum_zeros j n;
      keeps₁ = λ w e h c. ap (found_or w) (nearest_code 4 w (omega arith) c);
      keeps₂ = λ w e h c. ap (found_or w) (nearest_code 4 w (omega arith) c);
      sure = λ w e h c. ap mark_of (nearest_code 4 w (omega arith) c);
    }
