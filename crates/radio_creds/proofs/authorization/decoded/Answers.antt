use Rattle.std.proofs.Common.{sym, ap}
use Rattle.std.specs.Result.{result_ok}
use Rattle.base64.specs.Engines.{standard}
use Rattle.base64.specs.GeneralPurpose.{decoded_of}
use Rattle.base64.proofs.Streams.{decoded_of-ok}
use Rattle.radio_creds.proofs.authorization.decoded.Goals as goal

pub returns-in-Ok-clause-value : goal.returns-in-Ok-clause-value
returns-in-Ok-clause-value c = sym (decoded_of-ok standard c.args.text.now c.in-Ok.bytes.items c.in-Ok.ensures.ok)

pub returns-in-Err-DecodeError-clause-value : goal.returns-in-Err-DecodeError-clause-value
unfolding decoded_of
returns-in-Err-DecodeError-clause-value c = sym (ap result_ok (rw c.in-Err-DecodeError.field-0-is at c.in-Err-DecodeError.ensures.err))
