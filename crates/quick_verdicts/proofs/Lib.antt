mod WaysOut
