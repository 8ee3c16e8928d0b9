use Rattle.polcert_text.proofs.Scanning.Runs.{longest_seen}
use Rattle.polcert_text.proofs.tokens.gap_len.Goals as goal

pub returns : goal.returns
returns c =
    let seen = c.gap_prefix-len.ensures in
    longest_seen c.args.bytes.now c.gap_prefix-len.result.0 c.gap_prefix-len.result.1 seen.within seen.state seen.open seen.stops
